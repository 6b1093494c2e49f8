-- The bound of a branch for exactly n hubs, under weights on the first cuts of a list.
use Rattle.std.specs.Prelude.{ℕ, ℤ, pos, List, map, slice_index_or, Option, Some, None}
use Rattle.std.specs.Ordering.{int_cmp}
use Rattle.std.specs.List.Sorted.{IsPermutation, IsSorted}
use Rattle.hub_spec.specs.Trees.{Branching, counted_bound}
use Rattle.leaf_bound.specs.Bounds.{Weighting, weighted_total, gain_of, bound_of}

-- the bound of a branch for exactly n hubs
abbrev pub counted_of : ℕ → Weighting → Branching → ℤ
counted_of n m b = counted_bound n (weighted_total m) (gain_of m) b

-- the bound of a branch by the wanted number of hubs, if there is one
abbrev pub bound_for : Option ℕ → Weighting → Branching → ℤ
bound_for None m b = bound_of m b
bound_for (Some n) m b = counted_of n m b

-- the gain of the node, read of a list
abbrev pub gain_in : List ℤ → ℕ → ℤ
gain_in gains k = slice_index_or gains k (pos 0)

-- the values are the gains of these nodes, in rising order
pub record AreRising (gains : List ℤ) (nodes : List ℕ) (values : List ℤ) : Type 0 where
  pub same : IsPermutation (map (gain_in gains) nodes) values
  pub rise : IsSorted int_cmp values
