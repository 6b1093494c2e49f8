-- What the weightings of a search are made of is within its limits.
use Rattle.std.proofs.Common.{◌≡◌, ℕ, ◌<◌, ◌≤◌, List, length, All, Contains, ap, arith}
use Rattle.std.specs.List.{AllZip}
use Rattle.std.proofs.lemmas.List.Elements.{All-weaker}
use Rattle.hub_spec.specs.Limits.{most_fixed_cost}
use Rattle.hub_spec.specs.Problem.{Problem, IsProblem}
use Rattle.hub_spec.specs.Trees.{Branching, IsBranch}
use Rattle.hub_spec.proofs.Mixes.{candidate_is_node}
use Rattle.leaf_bound.specs.declared.weightings.Weighting as lent
use Rattle.leaf_bound.specs.Bounds.{loads_of}
use Rattle.leaf_bound.specs.Numbers.{IsBranchBelow, rows_of, IsSumOf, IsNodeWithin, IsBranchWithin}

nodes_below : (p : Problem) (ks : List ℕ) → IsProblem p → All (Contains p.candidates) ks → All (λ k. k < p.size) ks
nodes_below p ks ok are = All-weaker (Contains p.candidates) (λ k. k < p.size) (λ k c. candidate_is_node p k ok c) ks are

pub below_size : (p : Problem) (b : Branching) → IsProblem p → IsBranch p b → IsBranchBelow p.size b
below_size p b ok is = record {
  inside = nodes_below p b.inside ok is.inside_are;
  outside = nodes_below p b.outside ok is.outside_are;
  free = nodes_below p b.free ok is.free_are;
}

-- the numbers of a candidate are within their limits where its loads are
pub candidate_within : (p : Problem) (m : lent.Weighting) (k : ℕ) → IsProblem p → m.fixed.now ≡ p.fixed_costs → Contains p.candidates k
    → AllZip IsSumOf m.parts.now (loads_of (rows_of m) k) → IsNodeWithin m k
candidate_within p m k ok costs candidate loads =
    let node : k < length m.fixed.now = omega (arith, candidate_is_node p k ok candidate, ap length costs, ok.cost_for_each_node) in
    let limits : All (λ cost. cost ≤ most_fixed_cost) m.fixed.now = rw costs ok.cost_limit in
    record { is_node = node; are_loads = loads; fixed_limit = omega (arith, limits k 0 node) }

pub branch_within : (p : Problem) (m : lent.Weighting) (b : Branching) → ((k : ℕ) → Contains p.candidates k → IsNodeWithin m k) → IsBranch p b
    → IsBranchWithin m b
branch_within p m b within is = record {
  inside = All-weaker (Contains p.candidates) (IsNodeWithin m) within b.inside is.inside_are;
  free = All-weaker (Contains p.candidates) (IsNodeWithin m) within b.free is.free_are;
}
