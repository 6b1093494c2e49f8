-- Which routes are allowed, by how far they are.
use Rattle.std.proofs.Common.{◌≡◌, ◌↔◌, ℕ, ◌<◌, ◌≤◌, true, false, nat_eq, Option, Some, None, refl, leb-true, arith}
use Rattle.std.proofs.lemmas.Bool.{le-leb}
use Rattle.std.proofs.Common.{ne_eqb}
use Rattle.hub_spec.specs.Limits.{most_length}
use Rattle.hub_spec.specs.Problem.{Problem, IsProblem, flow, route_length, is_within, is_allowed}
use Rattle.hub_spec.proofs.SumLemmas.{by_test}
use Rattle.leg_duals.proofs.LegLimits.{distance_limit}
use Rattle.leg_duals.specs.Ways.{longest_way}

within_tells : (longest : Option ℕ) (n : ℕ) → n ≤ most_length → is_within longest n ≡ true ↔ n ≤ longest_way longest
within_tells None n low = (λ e. low, λ h. refl)
within_tells (Some most) n low = (λ e. leb-true n most e, λ h. le-leb n most h)

length_low : (p : Problem) (i j k m : ℕ) → IsProblem p → i < p.size → j < p.size → k < p.size → m < p.size → route_length p i j k m ≤ most_length
length_low p i j k m ok from to first last =
    omega (arith, distance_limit p i k ok from first, distance_limit p k m ok first last, distance_limit p m j ok last to)

-- where there is flow, a route is allowed where it is not too far
pub near_allowed : (p : Problem) (i j k m : ℕ) → IsProblem p → i < p.size → j < p.size → k < p.size → m < p.size
    → route_length p i j k m ≤ longest_way p.longest → is_allowed p (i, j) k m ≡ true
unfolding is_allowed
near_allowed p i j k m ok from to first last near =
    let within = (within_tells p.longest (route_length p i j k m) (length_low p i j k m ok from to first last)).1 near in
    by_test (nat_eq (flow p i j) 0) (λ e. rw e refl) (λ e. rw (e, within) refl)

pub allowed_near : (p : Problem) (i j k m : ℕ) → IsProblem p → i < p.size → j < p.size → k < p.size → m < p.size → 1 ≤ flow p i j
    → is_allowed p (i, j) k m ≡ true → route_length p i j k m ≤ longest_way p.longest
unfolding is_allowed
allowed_near p i j k m ok from to first last some allowed =
    let none : nat_eq (flow p i j) 0 ≡ false = ne_eqb (flow p i j) 0 (λ e. absurd (omega (arith, e, some))) in
    (within_tells p.longest (route_length p i j k m) (length_low p i j k m ok from to first last)).0 (rw none at allowed)
