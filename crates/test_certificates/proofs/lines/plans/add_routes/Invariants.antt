use Rattle.std.proofs.Common.{◌≡◌, ◌+◌, ◌*◌}
use Rattle.test_certificates.proofs.lines.plans.add_routes.Given as goal

abbrev pub invariant-loop-j : goal.invariant-loop-j
invariant-loop-j l = record { size : l.sums.size ≡ l.instance.size; routed : l.sums.routed ≡ l.i * l.instance.size + l.j }

abbrev pub invariant-loop-i : goal.invariant-loop-i
invariant-loop-i l = record { size : l.sums.size ≡ l.instance.size; routed : l.sums.routed ≡ l.i * l.instance.size }
