use Rattle.std.proofs.Common.{◌≡◌, map, take}
use Rattle.core_spec.specs.CoreCuts.{pair_cost}
use Rattle.core_cuts.proofs.edges.single_costs.Given as goal

abbrev pub invariant-loop-k : goal.invariant-loop-k
invariant-loop-k l = l.costs.items ≡ map (λ k. pair_cost l.instance (l.i, l.j) k k) (take l.k-index l.nodes)
