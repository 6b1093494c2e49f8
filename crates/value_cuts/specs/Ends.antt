-- The ends of routes: legs with the values of their candidates, by unit of flow, in 10^-6.
use Rattle.std.specs.Prelude.{◌≡◌, ℕ, ◌+◌, ◌*◌, ◌^◌, ◌<◌, ◌≤◌, List, length, slice_index, All}
use Rattle.hub_spec.specs.Problem.{Problem}
use Rattle.hub_model.specs.CandidateLengths.{candidate_at}

-- a leg and the greatest value together
abbrev pub most_end : ℕ
most_end = 4 * 10 ^ 16

-- legs, one for each place, each with the value of its candidate added
pub record AreEnds (p : Problem) (leg values : ℕ → ℕ) (ends : List ℕ) : Type 0 where
  pub long : length ends ≡ length p.candidates
  pub each : (x : ℕ) → x < length p.candidates → slice_index ends x ≡ leg x + values (candidate_at p x)
  pub limit : All (λ d. d ≤ most_end) ends
