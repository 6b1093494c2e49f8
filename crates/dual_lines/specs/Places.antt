-- The places of nodes among the candidates.
use Rattle.std.specs.Prelude.{◌≡◌, ℕ, ◌<◌, ◌≤◌, List, length, slice_index}
use Rattle.hub_spec.specs.Problem.{Problem}
use Rattle.hub_spec.specs.Cuts.{value_at}
use Rattle.hub_model.specs.CandidateLengths.{candidate_at}

-- the place of each candidate, and at another node a number that is no place
pub record ArePlaces (p : Problem) (places : List ℕ) : Type 0 where
  pub long : length places ≡ p.size
  pub place : (x : ℕ) → x < length p.candidates → slice_index places (candidate_at p x) ≡ x
  pub candidate : (k : ℕ) → k < p.size → slice_index places k < length p.candidates
      → candidate_at p (slice_index places k) ≡ k

-- the first places are those of these nodes
pub record IsPlaceOf (count : ℕ) (node : ℕ → ℕ) (places : List ℕ) : Type 0 where
  pub place : (x : ℕ) → x < count → slice_index places (node x) ≡ x

-- no place has more than is listed for its node
pub record IsWithinListed (count : ℕ) (node : ℕ → ℕ) (listed : List (ℕ × ℕ)) (units : List ℕ) : Type 0 where
  pub each : (x : ℕ) → x < count → slice_index units x ≤ value_at listed (node x)
