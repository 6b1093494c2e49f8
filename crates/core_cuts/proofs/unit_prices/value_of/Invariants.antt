use Rattle.std.proofs.Common.{◌≡◌, zip, drop}
use Rattle.hub_spec.specs.Cuts.{value_at}
use Rattle.core_cuts.proofs.unit_prices.value_of.Given as goal

abbrev pub invariant-loop-x : goal.invariant-loop-x
invariant-loop-x l = value_at (zip l.candidates l.values) l.node ≡ value_at (zip (drop l.x l.candidates) (drop l.x l.values)) l.node
