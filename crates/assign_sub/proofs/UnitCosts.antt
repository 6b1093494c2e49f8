-- Least lengths by unit of flow: their limits, and what they cost with the flow.
use Rattle.std.proofs.Common.{◌≡◌, ℕ, ◌+◌, ◌*◌, ◌<◌, ◌≤◌, List, None, length, slice_index, sym, ap, ⊎_elim, ◌∙◌, mul-le-mul_left, arith}
use Rattle.std.proofs.lemmas.List.{get_or_default}
use Rattle.std.proofs.lemmas.List.Elements.{Contains-get_or}
use Rattle.hub_spec.specs.Problem.{Problem, IsProblem, flow, distance, route_cost}
use Rattle.hub_spec.specs.Edges.{IsLeastCost}
use Rattle.hub_spec.specs.Plans.{IsHubSet}
use Rattle.hub_spec.proofs.BestRoutes.{hub_is_node}
use Rattle.hub_spec.proofs.PlanCosts.{any_allowed}
use Rattle.unit_duals.specs.Limits.{most_leg}
use Rattle.unit_duals.specs.Leasts.{least_of}
use Rattle.unit_duals.proofs.LeastNumbers.{least_of_le_start, least_of_le, least_of_is}
use Rattle.leg_duals.proofs.LegLimits.{distance_limit, leg_limit}
use Rattle.assign_sub.specs.LeastLengths.{reach_by, least_reach, length_by, least_length}

-- ---- limits

pub deliver_limit : (p : Problem) (k j : ℕ) → IsProblem p → k < p.size → j < p.size → p.deliver * distance p k j ≤ most_leg
deliver_limit p k j ok node to = leg_limit p.deliver (distance p k j) ok.deliver_limit (distance_limit p k j ok node to)

pub reach_limit : (p : Problem) (hubs : List ℕ) (i m : ℕ) → IsProblem p → IsHubSet p hubs → i < p.size → m < p.size
    → least_reach p hubs i m ≤ 2 * most_leg
unfolding least_reach
reach_limit p hubs i m ok set from last =
    let k = slice_index hubs 0 in
    let node = hub_is_node p hubs 0 ok set set.some_hub in
    omega (
      arith,
      least_of_le_start (reach_by p hubs i m 0) (reach_by p hubs i m) (length hubs),
      leg_limit p.collect (distance p i k) ok.collect_limit (distance_limit p i k ok from node),
      leg_limit p.trunk (distance p k m) ok.trunk_limit (distance_limit p k m ok node last),
    )

-- ---- costs

-- one of some numbers is the least of them
pub least_at : (f : ℕ → ℕ) (n : ℕ) → 1 ≤ n → (x : ℕ) × (x < n) × (least_of (f 0) f n ≡ f x)
least_at f n some = ⊎_elim (λ e. (0, omega (arith, some), e)) (λ p. p) (least_of_is (f 0) f n)

-- no route by hubs is shorter
length_le : (p : Problem) (hubs : List ℕ) (i j x y : ℕ) → x < length hubs → y < length hubs
    → least_length p hubs i j ≤ reach_by p hubs i (slice_index hubs y) x + p.deliver * distance p (slice_index hubs y) j
unfolding least_reach least_length
length_le p hubs i j x y first last =
    omega (
      arith,
      least_of_le (length_by p hubs i j 0) (length_by p hubs i j) (length hubs) y last,
      least_of_le (reach_by p hubs i (slice_index hubs y) 0) (reach_by p hubs i (slice_index hubs y)) (length hubs) x first,
    )

-- some route by hubs is as long
length_is : (p : Problem) (hubs : List ℕ) (i j : ℕ) → IsHubSet p hubs
    → (x : ℕ) × (y : ℕ) × (x < length hubs) × (y < length hubs)
    × (least_length p hubs i j ≡ reach_by p hubs i (slice_index hubs y) x + p.deliver * distance p (slice_index hubs y) j)
unfolding least_reach least_length
length_is p hubs i j set =
    let last = least_at (length_by p hubs i j) (length hubs) set.some_hub in
    let first = least_at (reach_by p hubs i (slice_index hubs last.0)) (length hubs) set.some_hub in
    (first.0, last.0, first.1, last.1, omega (arith, last.2, first.2))

-- where no length is limited, the flow times the least length is the least cost
pub least_length_costs : (p : Problem) (hubs : List ℕ) (i j : ℕ) → p.longest ≡ None → IsHubSet p hubs → IsLeastCost p hubs (i, j) (flow p i j * least_length p hubs i j)
unfolding route_cost
least_length_costs p hubs i j any set = record {
  reached = (let r = length_is p hubs i j set in (
    slice_index hubs r.0,
    slice_index hubs r.1,
    Contains-get_or hubs r.0 0 r.2,
    Contains-get_or hubs r.1 0 r.3,
    ap (λ (x : ℕ). flow p i j * x) (sym r.4),
    any_allowed p (i, j) (slice_index hubs r.0) (slice_index hubs r.1) any,
  ));
  least = λ k m is_hub is_other allowed. (let same = get_or_default hubs is_hub.0 0 k is_hub.1 ∙ is_hub.2 in
      let same_last = get_or_default hubs is_other.0 0 m is_other.1 ∙ is_other.2 in
      rw (← same, ← same_last) (mul-le-mul_left (flow p i j) (length_le p hubs i j is_hub.0 is_other.0 is_hub.1 is_other.1)));
}
