-- What is proved of the sums of a plan; each statement is the contract of the public function of its name.
use Rattle.std.specs.Prelude.{◌≡◌, ℕ, ◌+◌, ◌*◌, ◌<◌, List, [], ◌∷◌, ◌++◌}
use Rattle.hub_spec.specs.Problem.{Problem}
use Rattle.hub_spec.specs.Plans.{plan_cost}
use Rattle.cert_lines.specs.PlanTallies.{PlanTally, no_plan, with_hub, with_route, IsTallyOf}

-- sums that are begun are those of no hub and no route
abbrev pub PlanBegins : Type 0
PlanBegins = (p : Problem) → IsTallyOf p [] [] (no_plan p.size)

-- with a hub added, they are those of the hubs with that one behind
abbrev pub PlanHasHub : Type 0
PlanHasHub = (p : Problem) (hubs : List ℕ) (tally : PlanTally) (k : ℕ)
    → IsTallyOf p hubs [] tally → IsTallyOf p (hubs ++ k ∷ []) [] (with_hub p tally k)

-- with the route of the next commodity added, they are those of the routes with that one behind
abbrev pub PlanHasRoute : Type 0
PlanHasRoute = (p : Problem) (hubs : List ℕ) (routes : List (ℕ × ℕ)) (tally : PlanTally) (commodity route : ℕ × ℕ)
    → IsTallyOf p hubs routes tally → commodity.0 < p.size → commodity.1 < p.size
    → commodity.0 * p.size + commodity.1 ≡ tally.routed
    → IsTallyOf p hubs (routes ++ route ∷ []) (with_route p tally commodity route)

-- once each commodity has a route, the cost is that of the plan
abbrev pub PlanCosts : Type 0
PlanCosts = (p : Problem) (hubs : List ℕ) (routes : List (ℕ × ℕ)) (tally : PlanTally)
    → IsTallyOf p hubs routes tally → tally.routed ≡ p.size * p.size
    → tally.cost ≡ plan_cost p (record { hubs = hubs; routes = routes })
