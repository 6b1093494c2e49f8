-- The text of a report: its lines, each ended by a line feed. Costs have 12 decimals and flows 6, and nodes count from 1 here.
use Rattle.std.specs.Prelude.{ℕ, ◌+◌, Bool, true, false, nat_eq, Option, Some, None, List, ◌++◌, flat_map, codes, decimal}
use Rattle.text_spec.specs.Fixed.{fixed_text}
use Rattle.hub_spec.specs.Problem.{Problem, opening_cost}
use Rattle.hub_spec.specs.Plans.{Plan}
use Rattle.hub_spec.specs.Certificates.{Proof}
use Rattle.cert_format.specs.Spaced.{spaced_node}
use Rattle.network_report.specs.Parts.{collection_cost, trunk_cost, delivery_cost, collected_flow, delivered_flow}

-- the plan is optimal, or its bound is below its cost
abbrev pub status_word : Bool → List ℕ
status_word true = codes "optimal"
status_word false = codes "bounds"

abbrev pub status_line : Bool → List ℕ
status_line optimal = codes "status " ++ (status_word optimal ++ codes "\n")

-- the hubs, each behind a space
abbrev pub hubs_line : List ℕ → List ℕ
hubs_line hubs = codes "hubs" ++ (flat_map spaced_node hubs ++ codes "\n")

-- a cost behind its name
abbrev pub cost_line : List ℕ → ℕ → List ℕ
cost_line name cost = name ++ (codes " " ++ (fixed_text 12 cost ++ codes "\n"))

-- what the routes cost, by legs
abbrev pub leg_lines : Problem → Plan → List ℕ
leg_lines p plan =
    cost_line (codes "collection") (collection_cost p plan)
    ++ (cost_line (codes "trunk") (trunk_cost p plan) ++ cost_line (codes "delivery") (delivery_cost p plan))

-- what the hubs cost, what all costs, and the bound
abbrev pub total_lines : Problem → Proof → List ℕ
total_lines p k =
    cost_line (codes "fixed") (opening_cost p k.plan.hubs)
    ++ (cost_line (codes "total") k.cost ++ cost_line (codes "bound") k.bound)

-- the number of hubs that the instance's file lists
abbrev pub listed_line : Option ℕ → List ℕ
listed_line None = codes "listed p none\n"
listed_line (Some n) = codes "listed p " ++ (decimal n ++ codes "\n")

-- a hub with the flow that it takes up and gives out
abbrev pub hub_line : (hub collected delivered : ℕ) → List ℕ
hub_line hub collected delivered =
    codes "hub "
    ++ (decimal (hub + 1)
    ++ (codes " collected " ++ (fixed_text 6 collected ++ (codes " delivered " ++ (fixed_text 6 delivered ++ codes "\n")))))

-- the same, of a plan
abbrev pub flows_line : Problem → Plan → ℕ → List ℕ
flows_line p plan k = hub_line k (collected_flow p plan k) (delivered_flow p plan k)

-- the text
unfoldable pub report_text : Problem → Proof → List ℕ
report_text p k =
    status_line (nat_eq k.bound k.cost)
    ++ (hubs_line k.plan.hubs
    ++ (leg_lines p k.plan
    ++ (total_lines p k ++ (listed_line p.listed_p ++ flat_map (flows_line p k.plan) k.plan.hubs))))
