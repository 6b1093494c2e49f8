-- What the code holds to while it brings duals to one part.
use Rattle.std.specs.Prelude.{◌≡◌, ℕ, ◌*◌, ◌≤◌, All, Contains}
use Rattle.hub_spec.specs.Limits.{most_flow, most_cost, most_part}
use Rattle.hub_spec.specs.Problem.{Problem}
use Rattle.hub_spec.specs.Cuts.{Prices, value_at}
use Rattle.hub_spec.specs.Separation.{AreListedValues}
use Rattle.core_cuts.specs.Readings.{most_units, FoundDual}

-- of a price or a value that is found; and of one in a cut, where its sums are within their limit
abbrev pub most_found : ℕ
most_found = most_units * most_flow

abbrev pub most_sum : ℕ
most_sum = most_part * most_cost

-- price and values are at most so much
pub record IsDualWithin (most : ℕ) (dual : Prices) : Type 0 where
  pub price : dual.a ≤ most
  pub values : All (λ (e : ℕ × ℕ). e.1 ≤ most) dual.u

-- a dual that is found: its part is at least 1, price and values are not too great, and candidates are listed, each with its value
pub record IsSoundFound (p : Problem) (found : FoundDual) : Type 0 where
  pub some_part : 1 ≤ found.part
  pub within : IsDualWithin most_found found.dual
  pub listed : AreListedValues found.dual.u
  pub are_candidates : All (λ (e : ℕ × ℕ). Contains p.candidates e.0) found.dual.u
  pub own_values : All (λ (e : ℕ × ℕ). value_at found.dual.u e.0 ≡ e.1) found.dual.u
