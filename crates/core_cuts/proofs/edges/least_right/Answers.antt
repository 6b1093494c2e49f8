use Rattle.std.proofs.Common.{ℕ, ◌≡◌, ◌≤◌, ◌/◌, ap₂, sym, ◌∙◌, subst}
use Rattle.hub_spec.specs.Edges.{least_cost}
use Rattle.hub_spec.proofs.SetCutFunction.{price_same}
use Rattle.core_cuts.specs.Bodies.{most_unit}
use Rattle.core_cuts.proofs.Duals.{least_is, least_limit}
use Rattle.core_cuts.proofs.edges.least_right.Goals as goal
use Rattle.core_cuts.proofs.edges.least_right.Goals.{After-flow_between}

cost_is : (c : After-flow_between) → c.least_route-route.result.cost ≡ least_cost c.args.instance.now c.args.hubs.now (c.args.i, c.args.j)
cost_is c =
    let p = c.args.instance.now in
    price_same p c.args.hubs.now (c.args.i, c.args.j) c.least_route-route.result.cost (least_cost p c.args.hubs.now (c.args.i, c.args.j))
    c.least_route-route.ensures.price (least_is p c.args.hubs.now (c.args.i, c.args.j) c.requires.any_length c.requires.set)

pub by_unit-requires : goal.by_unit-requires
by_unit-requires c =
    subst (λ (n : ℕ). n ≤ most_unit) (sym (ap₂ ◌/◌ (cost_is (goal.at.by_unit-requires c).After-flow_between) c.flow_between.ensures.value))
    (least_limit c.args.instance.now c.args.hubs.now (c.args.i, c.args.j) c.size.ensures.problem c.requires.any_length c.requires.set c.requires.from c.requires.to)

pub returns-clause-value : goal.returns-clause-value
returns-clause-value c = c.by_unit.ensures ∙ ap₂ ◌/◌ (cost_is (goal.at.returns-clause-value c).After-flow_between) c.flow_between.ensures.value

pub returns-clause-limit : goal.returns-clause-limit
returns-clause-limit c =
    subst (λ (n : ℕ). n ≤ most_unit) (sym (returns-clause-value c))
    (least_limit c.args.instance.now c.args.hubs.now (c.args.i, c.args.j) c.size.ensures.problem c.requires.any_length c.requires.set c.requires.from c.requires.to)
