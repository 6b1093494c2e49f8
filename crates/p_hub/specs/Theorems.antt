-- What is proved of bounds for exactly n hubs; each statement is the contract of the public function of its name.
use Rattle.std.specs.Prelude.{◌≡◌, ℕ, ◌≤◌, true, false, List, length, All, Contains, Some}
use Rattle.hub_spec.specs.Problem.{Problem, IsProblem}
use Rattle.hub_spec.specs.Plans.{Plan, IsPlan, plan_cost}
use Rattle.hub_spec.specs.Cuts.{Cut, IsCut}
use Rattle.hub_spec.specs.Trees.{Branching, IsBranch, leaf_bound, open_child, closed_child, Closes}
use Rattle.leaf_bound.specs.Bounds.{Weighting}
use Rattle.leaf_bound.specs.Numbers.{IsBranchBelow}
use Rattle.leaf_bound.specs.Theorems.{weight_pairs, IsWeightingOf}
use Rattle.leaf_bound.specs.declared.sides.Side.{Side}
use Rattle.leaf_bound.specs.declared.sides.Side.TheVariants.{In, Out}
use Rattle.leaf_bound.specs.Shares.{AreShares, KeepsTo}
use Rattle.p_hub.specs.Counted.{counted_of}
use Rattle.p_hub.specs.Fixing.{counted_closes, counted_fixings, IsBetween}

-- for exactly n hubs, the bound by weights in a list is the bound at a leaf. The leaf has the same weights on the cuts,
-- those of 0 left out
abbrev pub LeafHasCounted : Type 0
LeafHasCounted = (n : ℕ) (p : Problem) (cuts : List Cut) (m : Weighting) (b : Branching) → p.wanted ≡ Some n
    → IsWeightingOf p cuts m → IsBranchBelow p.size b → leaf_bound p cuts m.denom (weight_pairs m.weights) b ≡ counted_of n m b

-- the child on the other side of the candidate is fathomed at the cutoff
abbrev pub OtherSideCloses : ℕ → Weighting → ℕ → Branching → ℕ → Side → Type 0
OtherSideCloses n m target b k In = Closes m.denom target (counted_of n m (closed_child b k))
OtherSideCloses n m target b k Out = Closes m.denom target (counted_of n m (open_child b k))

-- each listed candidate is free, and the child on its other side is fathomed at the cutoff
abbrev pub SidesClose : Type 0
SidesClose = (n : ℕ) (m : Weighting) (target : ℕ) (b : Branching) (k : ℕ) (side : Side)
    → Contains (counted_fixings n m target b) (k, side) → Contains b.free k × OtherSideCloses n m target b k side

-- where a branch is not fathomed at the cutoff, not both children of a free candidate are
abbrev pub NeverBoth : Type 0
NeverBoth = (n : ℕ) (m : Weighting) (target : ℕ) (b : Branching) (k : ℕ) → Contains b.free k → IsBetween n b
    → counted_closes n m target b ≡ false → counted_closes n m target (open_child b k) ≡ true
    → counted_closes n m target (closed_child b k) ≡ true → ⊥

-- a plan of the branch with exactly n hubs
pub record IsPlanOf (p : Problem) (n : ℕ) (b : Branching) (plan : Plan) : Type 0 where
  pub is_plan : IsPlan p plan
  pub many : length plan.hubs ≡ n
  pub keeps : KeepsTo plan b

-- such plans cost at least the cutoff: without the candidate where its closed child is fathomed, with it where its open
-- child is
pub record IsSoundAt (p : Problem) (n : ℕ) (m : Weighting) (target : ℕ) (b : Branching) (k : ℕ) : Type 0 where
  pub stays_in : Closes m.denom target (counted_of n m (closed_child b k)) → (plan : Plan) → IsPlanOf p n b plan
      → (Contains plan.hubs k → ⊥) → target ≤ plan_cost p plan
  pub stays_out : Closes m.denom target (counted_of n m (open_child b k)) → (plan : Plan) → IsPlanOf p n b plan
      → Contains plan.hubs k → target ≤ plan_cost p plan

-- each plan with exactly n hubs of a child that is fathomed at the cutoff costs at least the cutoff
abbrev pub FixingIsSound : Type 0
FixingIsSound = (p : Problem) (n : ℕ) (cuts : List Cut) (m : Weighting) (target : ℕ) (b : Branching) (k : ℕ) → IsProblem p
    → All (IsCut p) cuts → IsWeightingOf p cuts m → AreShares m → IsBranch p b → Contains b.free k → IsSoundAt p n m target b k
