use Rattle.std.proofs.Common.{◌≡◌, false, take}
use Rattle.std.specs.List.{list_any}
use Rattle.hub_spec.specs.Problem.{is_allowed}
use Rattle.test_plain.proofs.serving.serves.Given as goal

abbrev pub invariant-loop-first : goal.invariant-loop-first
invariant-loop-first l = list_any (λ k. list_any (is_allowed l.instance (l.i, l.j) k) l.hubs) (take l.first-index l.hubs) ≡ false
