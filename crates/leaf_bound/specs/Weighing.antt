-- The weighted sums and the gains that a bound is made of, over the numbers as they come in.
use Rattle.std.specs.Prelude.{◌≡◌, ℕ, take, ◌+◌, ◌*◌, ◌/◌, ◌<◌, ◌≤◌, ℤ, pos, ◌-ℤ◌, ◌≤ℤ◌, List, length, sum, slice_index, All}
use Rattle.std.specs.List.{AllZip, slice_index_or}
use Rattle.hub_spec.specs.Limits.{most_nodes, most_cost, most_denominator}
use Rattle.hub_spec.specs.Trees.{Branching}
use Rattle.leaf_bound.specs.Bounds.{weighted_by, shares_of, loads_of}
use Rattle.leaf_bound.specs.Numbers.{IsSumOf}

-- what a weighted sum is at most, and so a gain in size
abbrev pub most_gain : ℕ
most_gain = most_denominator * most_cost

-- what a bound is at most in size: a weighted sum, and a gain for each node inside and for each free one
abbrev pub most_bound : ℕ
most_bound = (1 + most_nodes + most_nodes) * most_gain

-- how often the weight at this place has the part there
abbrev pub share_at : List ℕ → List ℕ → ℕ → ℕ
share_at weights parts i = slice_index_or weights i 0 / slice_index parts i

-- weights on numbers of cuts with these parts
pub record AreWeighed (weights parts numbers : List ℕ) : Type 0 where
  pub few : length weights ≤ length numbers
  pub few_parts : length weights ≤ length parts
  pub weights_limit : sum weights ≤ most_denominator
  pub are_parts : All (λ part. 1 ≤ part) parts
  pub are_numbers : AllZip IsSumOf parts numbers

-- the weighted sum of the first i numbers, and what it is at most
pub record IsWeighedTo (weights parts numbers : List ℕ) (i so_far : ℕ) : Type 0 where
  pub value : so_far ≡ weighted_by (take i (shares_of weights parts)) numbers
  pub limit : so_far ≤ sum (take i weights) * most_cost

-- for each node that has a sum, that of the first i cuts' loads, where these are within their limits
pub record AreLoadsTo (weights parts : List ℕ) (loads : List (List ℕ)) (i : ℕ) (sums : List ℕ) : Type 0 where
  pub each : (k : ℕ) → k < length sums → AreWeighed weights parts (loads_of loads k)
      → IsWeighedTo weights parts (loads_of loads k) i (slice_index_or sums k 0)

-- the number is at most the limit in size
pub record IsWithin (limit : ℕ) (z : ℤ) : Type 0 where
  pub least : (pos 0 -ℤ pos limit) ≤ℤ z
  pub most : z ≤ℤ pos limit

-- the node has a gain in the list, within the limit of a gain
pub record IsGain (gains : List ℤ) (k : ℕ) : Type 0 where
  pub is_node : k < length gains
  pub limit : IsWithin most_gain (slice_index_or gains k (pos 0))

-- so has each node of the branch that its bound looks at
pub record AreGains (gains : List ℤ) (b : Branching) : Type 0 where
  pub inside : All (IsGain gains) b.inside
  pub free : All (IsGain gains) b.free
