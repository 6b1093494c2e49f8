-- What a node of the search has in code, and what it stands for.
use Rattle.std.specs.Prelude.{◌≡◌, ℕ, ◌≤◌, List, map, length, sum, All}
use Rattle.hub_spec.specs.Problem.{IsProblem}
use Rattle.leaf_bound.specs.declared.weightings.Weighting.{Weighting}
use Rattle.leaf_bound.specs.Bounds.{AreMultiples}
use Rattle.leaf_bound.specs.Numbers.{rows_of}
use Rattle.leaf_bound.specs.Theorems.{weight_pairs}
use Rattle.search_spec.specs.States.{denominator}
use Rattle.search_spec.specs.Steps as steps
use Rattle.cut_pool.specs.Entries.{Entry, entry_part}
use Rattle.search_steps.specs.Pools.{IsPoolOf}
use Rattle.search_steps.specs.declared.weightings.NodeWeights.{NodeWeights}
use Rattle.leaf_bound.specs.declared.sides.Side.{Side}
use Rattle.leaf_bound.specs.declared.sides.Side.TheVariants.{In, Out}

-- weights on the first of the entries: each is a multiple of its cut's part, and together they are at most 10^6, as is each
pub record AreNodeWeights (entries : List Entry) (weights : List ℕ) : Type 0 where
  pub few : length weights ≤ length entries
  pub each : All (λ w. w ≤ denominator) weights
  pub multiples : AreMultiples weights (map entry_part entries)
  pub most : sum weights ≤ denominator

-- the pool is one of the instance's cuts, and the weights are a node's
pub record AreWeighed (n : NodeWeights) : Type 0 where
  pub pool : IsPoolOf n.instance.now n.pool.now.entries
  pub weights : AreNodeWeights n.pool.now.entries n.weights.now

-- the weights above 0, by cut number, as a search has them
abbrev pub pairs_of : List ℕ → List (ℕ × ℕ)
pairs_of weights = weight_pairs weights

-- the weighting has the sums and the parts of the pool's entries, the problem's fixed costs and the weights of the node
pub record IsLentBy (n : NodeWeights) (m : Weighting) : Type 0 where
  pub problem : IsProblem n.instance.now
  pub weighed : AreWeighed n
  pub are_totals : m.totals.now ≡ map (λ e. e.total) n.pool.now.entries
  pub are_loads : rows_of m ≡ map (λ e. e.loads) n.pool.now.entries
  pub are_parts : m.parts.now ≡ map entry_part n.pool.now.entries
  pub are_fixed : m.fixed.now ≡ n.instance.now.fixed_costs
  pub are_weights : m.weights.now ≡ n.weights.now
  pub is_denom : m.denom ≡ denominator

-- the side as the search has it
abbrev pub side_as : Side → steps.Side
side_as In = steps.stays_open
side_as Out = steps.stays_closed

-- the nodes with the sides on which they stay, as the search has them
abbrev pub sides_as : List (ℕ × Side) → List (ℕ × steps.Side)
sides_as sides = map (λ e. (e.0, side_as e.1)) sides
