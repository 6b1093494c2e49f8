-- Prices and values by unit of flow, in 10^-6, that stand for what is listed.
use Rattle.std.specs.Prelude.{◌≡◌, ℕ, ◌+◌, ◌*◌, ◌^◌, ◌<◌, ◌≤◌, List, length, slice_index, All}
use Rattle.hub_spec.specs.Problem.{Problem, flow}
use Rattle.hub_model.specs.CandidateLengths.{candidate_at}
use Rattle.leg_duals.specs.CandidateLegs.{collection_length, trunk_length, delivery_length}

-- what a price or a value by unit of flow is cut to: no route is as long
abbrev pub most_unit : ℕ
most_unit = 10 ^ 17

-- what a commodity carries for a part: its flow, as often as the part says
abbrev pub weighted_flow : Problem → ℕ → ℕ × ℕ → ℕ
weighted_flow p part c = part * flow p c.0 c.1

-- a value by unit of flow for each place: so many units of flow together, and one, are no more than the value of the
-- candidate
pub record AreUnits (p : Problem) (flow : ℕ) (value : ℕ → ℕ) (units : List ℕ) : Type 0 where
  pub long : length units ≡ length p.candidates
  pub limit : All (λ v. v ≤ most_unit) units
  pub all : (x : ℕ) → x < length p.candidates → flow * slice_index units x ≤ value (candidate_at p x)
  pub one : (x : ℕ) → x < length p.candidates → slice_index units x ≤ value (candidate_at p x)

-- no last hub's leg of delivery and value are together less
pub record IsNearestLast (p : Problem) (j : ℕ) (units : List ℕ) (nearest : ℕ) : Type 0 where
  pub each : (y : ℕ) → y < length p.candidates → nearest ≤ delivery_length p j y + slice_index units y
  pub limit : nearest ≤ most_unit

-- the ends of last hubs: delivery and value together, for each place
pub record AreEnds (p : Problem) (j : ℕ) (units ends : List ℕ) : Type 0 where
  pub room : length p.candidates ≤ length ends
  pub limit : (y : ℕ) → y < length p.candidates → slice_index ends y ≤ 2 * most_unit
  pub each : (y : ℕ) → y < length p.candidates → slice_index ends y ≡ delivery_length p j y + slice_index units y

-- the price is covered by the length and the value with the candidate at place x as the only hub, and as the first with
-- each as the last
pub record IsCoveredInUnits (p : Problem) (c : ℕ × ℕ) (price : ℕ) (units : List ℕ) (x : ℕ) : Type 0 where
  pub alone : price ≤ collection_length p c.0 x + slice_index units x + delivery_length p c.1 x
  pub by_two : (y : ℕ) → y < length p.candidates
      → price ≤ collection_length p c.0 x + slice_index units x
      + (trunk_length p x y + delivery_length p c.1 y + slice_index units y)
