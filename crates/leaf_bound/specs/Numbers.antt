-- The borrowed numbers of a weighting, and their limits.
use Rattle.std.specs.Prelude.{◌≡◌, ℕ, ◌<◌, ◌≤◌, ◌*◌, List, length, map, sum, slice_index, All}
use Rattle.std.specs.List.{AllZip}
use Rattle.hub_spec.specs.Limits.{most_nodes, most_cost, most_denominator, most_part}
use Rattle.hub_spec.specs.Trees.{Branching}
use Rattle.leaf_bound.specs.declared.weightings.Weighting as lent
use Rattle.leaf_bound.specs.Bounds.{Weighting, AreMultiples, loads_of}

-- a sum of a cut with this part: at most 10^29 for each unit of the part
abbrev pub IsSumOf : ℕ → ℕ → Type 0
IsSumOf part x = x ≤ part * most_cost

-- the borrowed loads, a row for each cut
abbrev pub rows_of : lent.Weighting → List (List ℕ)
rows_of m = map (λ v. v.items) m.loads.now

-- the borrowed numbers are within their limits, but for those of single nodes
pub record AreWeightingNumbers (m : lent.Weighting) : Type 0 where
  pub some_nodes : length m.fixed.now ≤ most_nodes
  pub few_weights : length m.weights.now ≤ length m.totals.now
  pub are_parts : All (λ part. (1 ≤ part) × (part ≤ most_part)) m.parts.now
  pub are_totals : AllZip IsSumOf m.parts.now m.totals.now
  pub as_many_rows : length (rows_of m) ≡ length m.parts.now
  pub are_wide : All (λ row. length row ≡ length m.fixed.now) (rows_of m)
  pub are_multiples : AreMultiples m.weights.now m.parts.now
  pub weights_limit : sum m.weights.now ≤ m.denom
  pub denom_least : 1 ≤ m.denom
  pub denom_most : m.denom ≤ most_denominator

-- this is a node, and its load in each cut and its fixed cost are within their limits
pub record IsNodeWithin (m : lent.Weighting) (k : ℕ) : Type 0 where
  pub is_node : k < length m.fixed.now
  pub are_loads : AllZip IsSumOf m.parts.now (loads_of (rows_of m) k)
  pub fixed_limit : slice_index m.fixed.now k ≤ most_cost

-- so are the nodes of the branch that its bound looks at
pub record IsBranchWithin (m : lent.Weighting) (b : Branching) : Type 0 where
  pub inside : All (IsNodeWithin m) b.inside
  pub free : All (IsNodeWithin m) b.free

-- the branch's nodes are nodes
pub record IsBranchBelow (n : ℕ) (b : Branching) : Type 0 where
  pub inside : All (λ k. k < n) b.inside
  pub outside : All (λ k. k < n) b.outside
  pub free : All (λ k. k < n) b.free

-- the weights on cuts that these are
abbrev pub weighting_of : lent.Weighting → Weighting
weighting_of m =
    record {
      totals = m.totals.now;
      loads = rows_of m;
      parts = m.parts.now;
      fixed = m.fixed.now;
      weights = m.weights.now;
      denom = m.denom;
    }
