use Rattle.std.proofs.Common.{◌≡◌, sum_by, take}
use Rattle.hub_spec.specs.Problem.{fixed_cost}
use Rattle.value_cuts.proofs.offsets.all_costs.Given as goal

abbrev pub invariant-loop-k : goal.invariant-loop-k
invariant-loop-k l = l.sum ≡ sum_by (fixed_cost l.instance) (take l.k-index l.candidates)
