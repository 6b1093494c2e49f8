-- What is covered by unit of flow is covered in costs.
use Rattle.std.proofs.Common.{◌≡◌, ℕ, ◌+◌, ◌*◌, ◌<◌, ◌≤◌, List, length, slice_index, inr, mul-le-mul_left, arith}
use Rattle.std.proofs.lemmas.List.Elements.{All-from_get_or}
use Rattle.hub_spec.specs.Problem.{Problem, flow, route_cost}
use Rattle.hub_model.specs.CandidateLengths.{candidate_at}
use Rattle.leg_duals.specs.CandidateLegs.{collection_length, trunk_length, delivery_length}
use Rattle.dual_lines.specs.Covers.{IsCoveredBy, IsCoveredFirst}
use Rattle.dual_lines.specs.Units.{weighted_flow, AreUnits, IsCoveredInUnits}

alone_by_unit : (part f a price first trunk last u v : ℕ) → a ≤ part * f * price → price ≤ first + u + last → part * f * u ≤ v
    → a ≤ part * (f * (first + trunk + last)) + v
alone_by_unit part f a price first trunk last u v low covered value = omega (arith, low, value, mul-le-mul_left (part * f) covered)

by_two_by_unit : (part f a price first trunk last u t v s : ℕ) → a ≤ part * f * price → price ≤ first + u + (trunk + last + t)
    → part * f * u ≤ v → part * f * t ≤ s → a ≤ part * (f * (first + trunk + last)) + (v + s)
by_two_by_unit part f a price first trunk last u t v s low covered value other =
    omega (arith, low, value, other, mul-le-mul_left (part * f) covered)

pub covered_by_unit : (p : Problem) (part : ℕ) (c : ℕ × ℕ) (a price : ℕ) (amounts units : List ℕ) (x : ℕ) → a ≤ weighted_flow p part c * price
    → AreUnits p (weighted_flow p part c) (slice_index amounts) units → x < length p.candidates → IsCoveredInUnits p c price units x
    → IsCoveredFirst p part c a amounts (candidate_at p x)
unfolding route_cost
covered_by_unit p part c a price amounts units x low are place covered =
    let f = flow p c.0 c.1 in
    let k = candidate_at p x in (
      λ _. alone_by_unit part f a price (collection_length p c.0 x) (trunk_length p x x) (delivery_length p c.1 x) (slice_index units x) (slice_index amounts k)
          low covered.alone (are.all x place),
      All-from_get_or (IsCoveredBy p part c a amounts k) p.candidates 0 (λ y below.
          inr (λ _. by_two_by_unit part f a price (collection_length p c.0 x) (trunk_length p x y) (delivery_length p c.1 y) (slice_index units x)
          (slice_index units y) (slice_index amounts k) (slice_index amounts (candidate_at p y)) low (covered.by_two y below) (are.all x place)
          (are.all y below))),
    )
