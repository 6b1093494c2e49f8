-- What is proved of bounds by weights in a list; each statement is the contract of the public function of its name.
use Rattle.std.specs.Prelude.{◌≡◌, ℕ, ◌<◌, ◌≤◌, List, length, map, filter, sum, slice_index, nat_lt, All, None}
use Rattle.std.specs.List.{AllZip, enumerate_from}
use Rattle.std.specs.List.Sorted.{IsStrictlyIncreasing}
use Rattle.hub_spec.specs.Limits.{most_denominator}
use Rattle.hub_spec.specs.Problem.{Problem, fixed_cost}
use Rattle.hub_spec.specs.Cuts.{Cut, total, load}
use Rattle.hub_spec.specs.Trees.{Branching, leaf_bound, IsMix}
use Rattle.leaf_bound.specs.Bounds.{Weighting, AreMultiples, bound_of}
use Rattle.leaf_bound.specs.Numbers.{IsBranchBelow}

-- the numbers of the cuts that have a weight above 0, counted from 1, each with it
abbrev pub weight_pairs : List ℕ → List (ℕ × ℕ)
weight_pairs weights = filter (λ e. nat_lt 0 e.1) (enumerate_from 1 weights)

-- the row has the cut's load of each node
abbrev pub AreLoadsOf : Problem → Cut → List ℕ → Type 0
AreLoadsOf p cut row = (k : ℕ) → k < p.size → slice_index row k ≡ load cut k

-- the mixture is of these cuts of the problem: their totals, loads and parts, and the problem's fixed costs
pub record IsWeightingOf (p : Problem) (cuts : List Cut) (m : Weighting) : Type 0 where
  pub totals : m.totals ≡ map total cuts
  pub loads : AllZip (AreLoadsOf p) cuts m.loads
  pub fixed : (k : ℕ) → k < p.size → slice_index m.fixed k ≡ fixed_cost p k
  pub parts : m.parts ≡ map (λ (cut : Cut). cut.part) cuts
  pub few_weights : length m.weights ≤ length cuts

-- the bound by weights in a list is the bound at a leaf with the same weights on the cuts, those of 0 left out, where no
-- number of hubs is wanted
abbrev pub LeafHasThisBound : Type 0
LeafHasThisBound = (p : Problem) (cuts : List Cut) (m : Weighting) (b : Branching) → p.wanted ≡ None → IsWeightingOf p cuts m
    → IsBranchBelow p.size b → leaf_bound p cuts m.denom (weight_pairs m.weights) b ≡ bound_of m b

-- weights of a leaf in the order in which a certificate has them: ascending by cut, and each above 0
pub record AreLeafWeights (cuts : List Cut) (denom : ℕ) (weights : List (ℕ × ℕ)) : Type 0 where
  pub mix : IsMix cuts denom weights
  pub ascend : IsStrictlyIncreasing (map (λ e. e.0) weights)
  pub above : All (λ e. 1 ≤ e.1) weights

-- weights in a list, of which there are no more than cuts, and each a multiple of its cut's part, give a leaf its weights
abbrev pub PairsAreAMix : Type 0
PairsAreAMix = (cuts : List Cut) (denom : ℕ) (weights : List ℕ) → AreMultiples weights (map (λ (cut : Cut). cut.part) cuts)
    → length weights ≤ length cuts → 1 ≤ denom → denom ≤ most_denominator → sum weights ≤ denom
    → AreLeafWeights cuts denom (weight_pairs weights)
