use Rattle.std.proofs.Common.{◌≡◌, ◌+◌, ◌*◌, None, take}
use Rattle.hub_spec.specs.Problem.{commodities}
use Rattle.hub_spec.specs.Lacking.{first_lacked}
use Rattle.test_plain.proofs.serving.lacking.Given as goal

abbrev pub invariant-loop-j : goal.invariant-loop-j
invariant-loop-j l = first_lacked l.instance l.hubs (take (l.i * l.instance.size + l.j) (commodities l.instance.size)) ≡ None

abbrev pub invariant-loop-i : goal.invariant-loop-i
invariant-loop-i l = first_lacked l.instance l.hubs (take (l.i * l.instance.size) (commodities l.instance.size)) ≡ None
