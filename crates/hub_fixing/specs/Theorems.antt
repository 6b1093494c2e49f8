-- What variable fixing says of the branch and of its plans; each statement is the contract of the public function of
-- its name.
use Rattle.std.specs.Prelude.{◌≡◌, ℕ, ◌≤◌, true, false, List, All, Contains}
use Rattle.hub_spec.specs.Problem.{Problem, IsProblem}
use Rattle.hub_spec.specs.Plans.{Plan, IsPlan, plan_cost}
use Rattle.hub_spec.specs.Cuts.{Cut, IsCut}
use Rattle.hub_spec.specs.Trees.{Branching, IsBranch, open_child, closed_child, Closes}
use Rattle.leaf_bound.specs.Bounds.{Weighting, bound_of}
use Rattle.leaf_bound.specs.Theorems.{IsWeightingOf}
use Rattle.leaf_bound.specs.Shares.{AreShares, KeepsTo}
use Rattle.leaf_bound.specs.declared.sides.Side.{Side}
use Rattle.leaf_bound.specs.declared.sides.Side.TheVariants.{In, Out}
use Rattle.hub_fixing.specs.Fixing.{closes_by, fixings}

-- the child on the other side of the candidate is fathomed at the cutoff
abbrev pub OtherSideCloses : Weighting → ℕ → Branching → ℕ → Side → Type 0
OtherSideCloses m target b k In = Closes m.denom target (bound_of m (closed_child b k))
OtherSideCloses m target b k Out = Closes m.denom target (bound_of m (open_child b k))

-- each listed candidate is free, and the child on its other side is fathomed at the cutoff
abbrev pub SidesClose : Type 0
SidesClose = (m : Weighting) (target : ℕ) (b : Branching) (k : ℕ) (side : Side) → Contains (fixings m target b) (k, side)
    → Contains b.free k × OtherSideCloses m target b k side

-- where a branch is not fathomed at the cutoff, not both children of a free candidate are
abbrev pub NeverBoth : Type 0
NeverBoth = (m : Weighting) (target : ℕ) (b : Branching) (k : ℕ) → Contains b.free k → closes_by m target b ≡ false
    → closes_by m target (open_child b k) ≡ true → closes_by m target (closed_child b k) ≡ true → ⊥

-- the plans of the branch cost at least the cutoff: without the candidate where its closed child is fathomed, with it
-- where its open child is
pub record IsSoundAt (p : Problem) (m : Weighting) (target : ℕ) (b : Branching) (k : ℕ) : Type 0 where
  pub stays_in : Closes m.denom target (bound_of m (closed_child b k)) → (plan : Plan) → IsPlan p plan → KeepsTo plan b
      → (Contains plan.hubs k → ⊥) → target ≤ plan_cost p plan
  pub stays_out : Closes m.denom target (bound_of m (open_child b k)) → (plan : Plan) → IsPlan p plan → KeepsTo plan b
      → Contains plan.hubs k → target ≤ plan_cost p plan

-- each plan of a child that is fathomed at the cutoff costs at least the cutoff
abbrev pub FixingIsSound : Type 0
FixingIsSound = (p : Problem) (cuts : List Cut) (m : Weighting) (target : ℕ) (b : Branching) (k : ℕ) → IsProblem p
    → All (IsCut p) cuts → IsWeightingOf p cuts m → AreShares m → IsBranch p b → Contains b.free k → IsSoundAt p m target b k
