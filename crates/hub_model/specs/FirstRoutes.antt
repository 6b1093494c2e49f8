-- The first of the cheapest routes of a commodity, among those that are allowed.
use Rattle.std.specs.Prelude.{◌≡◌, ℕ, List, Option, Some, None}
use Rattle.hub_spec.specs.Problem.{Problem}
use Rattle.hub_spec.specs.Plans.{HasRoute, IsLeastRoute, cost_of_route}
use Rattle.hub_model.specs.declared.routes.Route.{Route}

-- the first and the last hub of the route
abbrev pub hubs_of : Route → ℕ × ℕ
hubs_of r = (r.first, r.last)

-- the least route of the commodity with its cost, or none where the hubs are infeasible for it
abbrev pub IsCheapest : Problem → List ℕ → ℕ × ℕ → Option Route → Type 0
IsCheapest p hubs c None = HasRoute p hubs c → ⊥
IsCheapest p hubs c (Some r) = IsLeastRoute p hubs c (hubs_of r) × (r.cost ≡ cost_of_route p (c, hubs_of r))
