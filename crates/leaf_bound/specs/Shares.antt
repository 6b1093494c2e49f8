-- Weights that are shares, and plans that keep to a branch.
use Rattle.std.specs.Prelude.{◌≤◌, sum, All, Contains}
use Rattle.hub_spec.specs.Limits.{most_denominator}
use Rattle.hub_spec.specs.Plans.{Plan}
use Rattle.hub_spec.specs.Trees.{Branching}
use Rattle.leaf_bound.specs.Bounds.{Weighting, AreMultiples}

-- the weights are shares of the denominator, which is within its limits, each a multiple of its cut's part
pub record AreShares (m : Weighting) : Type 0 where
  pub denom_least : 1 ≤ m.denom
  pub denom_most : m.denom ≤ most_denominator
  pub weights_limit : sum m.weights ≤ m.denom
  pub multiples : AreMultiples m.weights m.parts

-- the plan keeps to the branch: each node inside is one of its hubs, and no node outside is
pub record KeepsTo (plan : Plan) (b : Branching) : Type 0 where
  pub inside : All (Contains plan.hubs) b.inside
  pub outside : All (λ k. Contains plan.hubs k → ⊥) b.outside
