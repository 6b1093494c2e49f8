-- Variable fixing for exactly n hubs: the free candidates of a branch that are decided.
use Rattle.std.specs.Prelude.{ℕ, ◌+◌, ◌*◌, ◌<◌, ℤ, pos, ◌+ℤ◌, ◌-ℤ◌, Bool, cond, int_lt, List, length, Option, Some, None, filter_map}
use Rattle.std.specs.Int.{int_max}
use Rattle.std.specs.Option.{option_map}
use Rattle.hub_spec.specs.Trees.{Branching, open_child, closed_child}
use Rattle.leaf_bound.specs.Bounds.{Weighting}
use Rattle.leaf_bound.specs.declared.sides.Side.{Side}
use Rattle.leaf_bound.specs.declared.sides.Side.TheVariants.{In, Out}
use Rattle.p_hub.specs.Counted.{counted_of}

-- whether the bound of the branch fathoms it at the cutoff
abbrev pub counted_closes : ℕ → Weighting → ℕ → Branching → Bool
counted_closes n m target b = int_lt (pos (m.denom * target) -ℤ pos m.denom) (counted_of n m b)

-- the side to which a free candidate is fixed, if it is: in where its closed child is fathomed at the cutoff, out where
-- its open child is
abbrev pub counted_side : ℕ → Weighting → ℕ → Branching → ℕ → Option Side
counted_side n m target b k =
    cond (counted_closes n m target (closed_child b k)) (Some In)
    (cond (counted_closes n m target (open_child b k)) (Some Out) None)

-- the fixed candidates, ascending, each with its side
abbrev pub counted_fixings : ℕ → Weighting → ℕ → Branching → List (ℕ × Side)
counted_fixings n m target b = filter_map (λ k. option_map (λ side. (k, side)) (counted_side n m target b k)) b.free

-- hubs are missing, but fewer than there are free nodes, so that each child of the branch has room too
pub record IsBetween (n : ℕ) (b : Branching) : Type 0 where
  pub missing : length b.inside < n
  pub spare : n < length b.inside + length b.free

-- the same side by the bound of the branch, the gains `last` and `next`, what a bound has to exceed, and the
-- candidate's gain. `last` is the greatest gain that the bound counts, and `next` the least that it does not
abbrev pub side_by : ℤ → ℤ → ℤ → ℤ → ℤ → Option Side
side_by bound last next threshold gain =
    cond (int_lt threshold (bound +ℤ int_max (next -ℤ gain) (pos 0))) (Some In)
    (cond (int_lt threshold (bound +ℤ int_max (gain -ℤ last) (pos 0))) (Some Out) None)
