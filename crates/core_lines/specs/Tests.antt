-- What a tally and a dual, whose values are listed by node, show together.
use Rattle.std.specs.Prelude.{◌≡◌, ℕ, ◌+◌, ◌*◌, ◌^◌, ◌≤◌, IsTrue, List, length, slice_index, sum_by, All, Contains}
use Rattle.hub_spec.specs.Edges.{least_cost}
use Rattle.hub_spec.specs.Cuts.{Prices, value_at}
use Rattle.core_spec.specs.CoreCuts.{IsByFlow}
use Rattle.core_lines.specs.Tallies.{ProofTally, carried}

-- of a part, a price and a value, in 10^-12
abbrev pub most_amount : ℕ
most_amount = 10 ^ 33

-- the price and the values by node are the dual's
pub record IsListed (dual : Prices) (price : ℕ) (values : List ℕ) : Type 0 where
  pub price_is : price ≡ dual.a
  pub values_are : (k : ℕ) → slice_index values k ≡ value_at dual.u k

-- the sum of the values of these nodes
abbrev pub values_of : List ℕ → List ℕ → ℕ
values_of values nodes = sum_by (slice_index values) nodes

-- the node is passed as often as its cover may
abbrev pub IsWithinCover : List ℕ → ProofTally → ℕ → Type 0
IsWithinCover hubs t k = (Contains hubs k → slice_index t.through k ≤ t.scale * (1 + 2 * t.turns))
    × ((Contains hubs k → ⊥) → slice_index t.through k ≤ t.scale)

-- the ways are enough, and at no candidate too many
abbrev pub Covers : List ℕ → ProofTally → Type 0
Covers hubs t = (t.scale * (2 + 2 * t.turns) ≤ t.taken) × All (IsWithinCover hubs t) t.problem.candidates

-- the price is the least cost by the hubs with their values
abbrev pub IsTightPrice : List ℕ → ℕ → ℕ → List ℕ → ProofTally → Type 0
IsTightPrice hubs part price values t = price ≡ part * least_cost t.problem hubs t.commodity + values_of values hubs

-- the values of these nodes are so many times what is carried
abbrev pub AreByFlow : ℕ → List ℕ → List ℕ → Type 0
AreByFlow carried values nodes = All (λ k. IsByFlow carried (slice_index values k)) nodes

-- and their sum is so many times it
pub record IsSumByFlow (carried : ℕ) (values nodes : List ℕ) (units : ℕ) : Type 0 where
  pub sum_is : carried * units ≡ values_of values nodes
  pub limit : units ≤ length nodes * 10 ^ 20
  pub each : AreByFlow carried values nodes

-- what the dual says is what the ways cost
abbrev pub IsBalanced : List ℕ → ℕ → ℕ → List ℕ → ProofTally → Type 0
IsBalanced hubs part price values t =
    t.scale * (2 * price + 2 * t.turns * (part * least_cost t.problem hubs t.commodity))
    ≡ part * (carried t * t.lengths) + t.scale * values_of values t.problem.candidates

-- all that is tested where the line of a proof ends
pub record Proves (hubs : List ℕ) (part price : ℕ) (values : List ℕ) (t : ProofTally) : Type 0 where
  pub known : IsTrue t.by_candidates
  pub covers : Covers hubs t
  pub tight : IsTightPrice hubs part price values t
  pub price_by_flow : IsByFlow (carried t) price
  pub values_by_flow : AreByFlow (carried t) values t.problem.candidates
  pub balanced : IsBalanced hubs part price values t
