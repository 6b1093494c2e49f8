-- The sums of a leaf while its pairs come.
use Rattle.std.specs.Prelude.{◌≡◌, ℕ, ◌+◌, ◌-◌, ◌*◌, ◌/◌, ◌<◌, ◌≤◌, ℤ, pos, Option, Some, None, List, length, slice_index, All}
use Rattle.std.specs.Int.{int_min}
use Rattle.hub_spec.specs.Limits.{most_cost, most_denominator}
use Rattle.hub_spec.specs.Sums.{sum_ints, least_sum}
use Rattle.hub_spec.specs.Problem.{Problem, fixed_cost}
use Rattle.hub_spec.specs.Cuts.{Cut}
use Rattle.hub_spec.specs.Trees.{Branching, weight_sum, mixed_total, mixed_load, gain, bound_by}

-- the denominator, and so far the sums of the weights, of the totals and by node of the loads, each as often as its
-- weight has the part of its cut
pub record Tally : Type 0 where
  pub denom : ℕ
  pub weight : ℕ
  pub base : ℕ
  pub loads : List ℕ

-- by its parts
abbrev pub tally_of : ℕ → ℕ → ℕ → List ℕ → Tally
tally_of denom weight base loads = record { denom = denom; weight = weight; base = base; loads = loads }

-- nothing is added up yet
pub record IsBegun (denom n : ℕ) (tally : Tally) : Type 0 where
  pub denom_is : tally.denom ≡ denom
  pub weight_is : tally.weight ≡ 0
  pub base_is : tally.base ≡ 0
  pub count : length tally.loads ≡ n
  pub loads_are : (k : ℕ) → k < n → slice_index tally.loads k ≡ 0

-- the weight is a multiple of the part
abbrev pub IsMultipleOf : ℕ → ℕ → Type 0
IsMultipleOf part weight = weight / part * part ≡ weight

-- the later sums have a cut of this part, this total and these loads more, with this weight
pub record IsAdded (tally : Tally) (weight part total : ℕ) (loads : List ℕ) (later : Tally) : Type 0 where
  pub denom_is : later.denom ≡ tally.denom
  pub weight_is : later.weight ≡ tally.weight + weight
  pub base_is : later.base ≡ tally.base + weight / part * total
  pub count : length later.loads ≡ length tally.loads
  pub loads_are : (k : ℕ) → k < length tally.loads
      → slice_index later.loads k ≡ slice_index tally.loads k + weight / part * slice_index loads k

-- the weights are at most the denominator, and the other sums at most the limit times the weights
pub record IsWithin (tally : Tally) : Type 0 where
  pub denom_limit : tally.denom ≤ most_denominator
  pub weight_limit : tally.weight ≤ tally.denom
  pub base_limit : tally.base ≤ tally.weight * most_cost
  pub load_limit : All (λ load. load ≤ tally.weight * most_cost) tally.loads

-- what opening a node adds to the bound by these sums
abbrev pub tally_gain : Problem → Tally → ℕ → ℤ
tally_gain p tally k = gain tally.denom (fixed_cost p) (slice_index tally.loads) k

-- the bound of the branch by these sums, and by the number of hubs that is wanted, if one is
abbrev pub tally_bound : Problem → Tally → Branching → ℤ
tally_bound p tally b = bound_by p.wanted tally.base (tally_gain p tally) b

-- what the free nodes of the branch add to it: the sum of the gains below 0, or of as many of the least as hubs are
-- missing
abbrev pub free_sum : Option ℕ → (ℕ → ℤ) → Branching → ℤ
free_sum None gains b = sum_ints (λ k. int_min (pos 0) (gains k)) b.free
free_sum (Some n) gains b = least_sum (n - length b.inside) gains b.free

-- the sums over n nodes are those of a leaf's pairs on these cuts
pub record AreSumsOf (n : ℕ) (cuts : List Cut) (denom : ℕ) (weights : List (ℕ × ℕ)) (tally : Tally) : Type 0 where
  pub denom_is : tally.denom ≡ denom
  pub weight_is : tally.weight ≡ weight_sum weights
  pub base_is : tally.base ≡ mixed_total cuts weights
  pub count : length tally.loads ≡ n
  pub loads_are : (k : ℕ) → k < n → slice_index tally.loads k ≡ mixed_load cuts weights k
