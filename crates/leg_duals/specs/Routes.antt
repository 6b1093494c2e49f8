-- Routes by unit of flow.
use Rattle.std.specs.Prelude.{◌≡◌, ℕ, ◌+◌, ◌*◌, ◌<◌, List, Option, Some, None}
use Rattle.hub_spec.specs.Problem.{Problem, distance}
use Rattle.hub_spec.specs.Plans.{HasRoute, IsLeastRoute}
use Rattle.leg_duals.specs.declared.routes.LimitedRoute.{LimitedRoute}

-- the length of the route from i to j by k first and m last, by unit of flow
abbrev pub unit_length : Problem → ℕ → ℕ → ℕ → ℕ → ℕ
unit_length p i j k m = p.collect * distance p i k + p.trunk * distance p k m + p.deliver * distance p m j

-- the first and the last hub of a route
abbrev pub hubs_of : LimitedRoute → ℕ × ℕ
hubs_of r = (r.first, r.last)

-- the least route of the commodity with its length, or none where the hubs lack it
abbrev pub IsShortest : Problem → List ℕ → ℕ × ℕ → Option LimitedRoute → Type 0
IsShortest p hubs c None = HasRoute p hubs c → ⊥
IsShortest p hubs c (Some r) = IsLeastRoute p hubs c (hubs_of r) × (r.length ≡ unit_length p c.0 c.1 r.first r.last)

-- the length is greater than that of the best route so far
abbrev pub IsLongerThan : ℕ → Option LimitedRoute → Type 0
IsLongerThan length None = ⊥
IsLongerThan length (Some best) = best.length < length
