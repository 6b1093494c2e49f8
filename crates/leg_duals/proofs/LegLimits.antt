-- The limit of a leg.
use Rattle.std.proofs.Common.{ℕ, ◌+◌, ◌*◌, ◌<◌, ◌≤◌, arith}
use Rattle.std.proofs.lemmas.Nat.{mul-le, mul-add-lt}
use Rattle.std.proofs.lemmas.List.Elements.{All-get_or}
use Rattle.hub_spec.specs.Limits.{most_distance, most_factor}
use Rattle.hub_spec.specs.Problem.{Problem, distance, IsProblem}
use Rattle.unit_duals.specs.Limits.{most_leg}

pub distance_limit : (p : Problem) (i j : ℕ) → IsProblem p → i < p.size → j < p.size → distance p i j ≤ most_distance
unfolding distance
distance_limit p i j ok row column =
    All-get_or (λ d. d ≤ most_distance) p.distances (i * p.size + j) 0
    (omega (arith, ok.distance_for_each_pair, mul-add-lt i p.size j p.size row column)) ok.distance_limit

pub leg_limit : (factor d : ℕ) → factor ≤ most_factor → d ≤ most_distance → factor * d ≤ most_leg
leg_limit factor d few near = omega (arith, mul-le factor d most_factor most_distance few near)
