use Rattle.std.proofs.Common.{◌≡◌, false, take}
use Rattle.std.specs.List.{list_any}
use Rattle.hub_spec.specs.Problem.{is_allowed}
use Rattle.test_plain.proofs.serving.serves_from.Given as goal

abbrev pub invariant-loop-last : goal.invariant-loop-last
invariant-loop-last l = list_any (is_allowed l.instance (l.i, l.j) l.first) (take l.last-index l.hubs) ≡ false
