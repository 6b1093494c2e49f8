use Rattle.std.proofs.Common.{◌≡◌}
use Rattle.test_certificates.proofs.lines.trees.behind.Given as goal

abbrev pub invariant-loop-line : goal.invariant-loop-line
invariant-loop-line l = l.path.size ≡ l.instance.size
