-- The bound of a branch under weights on the first cuts of a list.
use Rattle.std.specs.Prelude.{◌≡◌, ℕ, ◌+◌, ◌*◌, ◌/◌, ℤ, List, [], ◌∷◌, map, slice_index}
use Rattle.hub_spec.specs.Trees.{Branching, gain, branch_bound}

-- what a bound is made of: totals, loads and parts by cut, fixed costs by node, weights of the first cuts, the denominator
pub record Weighting : Type 0 where
  pub totals : List ℕ
  pub loads : List (List ℕ)
  pub parts : List ℕ
  pub fixed : List ℕ
  pub weights : List ℕ
  pub denom : ℕ

-- the sum of the numbers, each times its weight; a weight that is missing at the end counts as 0
abbrev pub weighted_by : List ℕ → List ℕ → ℕ
weighted_by [] numbers = 0
weighted_by (w ∷ weights) [] = 0
weighted_by (w ∷ weights) (x ∷ numbers) = w * x + weighted_by weights numbers

-- how often each weight has its cut's part
abbrev pub shares_of : List ℕ → List ℕ → List ℕ
shares_of [] parts = []
shares_of (w ∷ weights) [] = []
shares_of (w ∷ weights) (e ∷ parts) = w / e ∷ shares_of weights parts

-- each weight is a multiple of its cut's part
abbrev pub AreMultiples : List ℕ → List ℕ → Type 0
AreMultiples [] parts = Unit {0}
AreMultiples (w ∷ weights) [] = ⊥
AreMultiples (w ∷ weights) (e ∷ parts) = (w / e * e ≡ w) × AreMultiples weights parts

-- the cuts' loads of the node
abbrev pub loads_of : List (List ℕ) → ℕ → List ℕ
loads_of loads k = map (λ row. slice_index row k) loads

-- the sum of the cuts' totals, each as often as its weight has its part
abbrev pub weighted_total : Weighting → ℕ
weighted_total m = weighted_by (shares_of m.weights m.parts) m.totals

-- the sum of the cuts' loads of the node, each as often
abbrev pub weighted_load : Weighting → ℕ → ℕ
weighted_load m k = weighted_by (shares_of m.weights m.parts) (loads_of m.loads k)

-- the gain of the node
abbrev pub gain_of : Weighting → ℕ → ℤ
gain_of m k = gain m.denom (slice_index m.fixed) (weighted_load m) k

-- the bound of a branch
abbrev pub bound_of : Weighting → Branching → ℤ
bound_of m b = branch_bound (weighted_total m) (gain_of m) b
