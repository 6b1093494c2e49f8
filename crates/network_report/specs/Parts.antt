-- What the cost of a plan is made of, in 10^-12, and the flow that each hub takes up and gives out, in 10^-6.
use Rattle.std.specs.Prelude.{ℕ, ◌*◌, List, sum_by, zip, filter, nat_eq}
use Rattle.hub_spec.specs.Problem.{Problem, flow, distance, commodities}
use Rattle.hub_spec.specs.Plans.{Plan}

-- the commodities, each with its route
abbrev pub routed : Problem → Plan → List ((ℕ × ℕ) × (ℕ × ℕ))
routed p plan = zip (commodities p.size) plan.routes

-- the flow of a commodity
abbrev pub flow_on : Problem → (ℕ × ℕ) × (ℕ × ℕ) → ℕ
flow_on p t = flow p t.0.0 t.0.1

-- what it costs from its origin to the first hub of its route
abbrev pub collection_leg : Problem → (ℕ × ℕ) × (ℕ × ℕ) → ℕ
collection_leg p t = flow_on p t * (p.collect * distance p t.0.0 t.1.0)

-- from the first hub to the last one
abbrev pub trunk_leg : Problem → (ℕ × ℕ) × (ℕ × ℕ) → ℕ
trunk_leg p t = flow_on p t * (p.trunk * distance p t.1.0 t.1.1)

-- and from the last hub to its destination
abbrev pub delivery_leg : Problem → (ℕ × ℕ) × (ℕ × ℕ) → ℕ
delivery_leg p t = flow_on p t * (p.deliver * distance p t.1.1 t.0.1)

-- the legs of all commodities together
abbrev pub collection_cost : Problem → Plan → ℕ
collection_cost p plan = sum_by (collection_leg p) (routed p plan)

abbrev pub trunk_cost : Problem → Plan → ℕ
trunk_cost p plan = sum_by (trunk_leg p) (routed p plan)

abbrev pub delivery_cost : Problem → Plan → ℕ
delivery_cost p plan = sum_by (delivery_leg p) (routed p plan)

-- the flow whose first hub is k
abbrev pub collected_flow : Problem → Plan → ℕ → ℕ
collected_flow p plan k = sum_by (flow_on p) (filter (λ t. nat_eq t.1.0 k) (routed p plan))

-- the flow whose last hub is k
abbrev pub delivered_flow : Problem → Plan → ℕ → ℕ
delivered_flow p plan k = sum_by (flow_on p) (filter (λ t. nat_eq t.1.1 k) (routed p plan))
