-- What an edge costs where the length of routes is not limited.
use Rattle.std.proofs.Common.{◌≡◌, ℕ, min, None, refl}
use Rattle.hub_spec.specs.Problem.{Problem, route_cost}
use Rattle.core_spec.specs.CoreCuts.{pair_cost}
use Rattle.hub_spec.proofs.PlanCosts.{any_allowed}
use Rattle.hub_spec.proofs.Ways.{way_allowed}

-- the lesser cost of its two directions
pub pair_cost_is : (p : Problem) (c : ℕ × ℕ) (k m : ℕ) → p.longest ≡ None
    → pair_cost p c k m ≡ min (route_cost p c.0 c.1 k m) (route_cost p c.0 c.1 m k)
pair_cost_is p c k m any =
    rw (way_allowed p c k m (any_allowed p c k m any), way_allowed p c m k (any_allowed p c m k any)) refl
