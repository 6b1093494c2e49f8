use Rattle.std.proofs.Common.{ℕ, pos, subst, sym, ap, ◌∙◌, arith}
use Rattle.hub_spec.specs.Plans.{IsSetCost}
use Rattle.hub_model.specs.Amounts.{natural}
use Rattle.hub_model.proofs.Assigned.{assigned_limit, assigned_more, assigned_whole, IsWhole}
use Rattle.hub_model.proofs.SignedCosts.{handed_on}
use Rattle.test_plain.proofs.assignments.assign_to.Goals as goal
use Rattle.test_plain.proofs.assignments.assign_to.Goals.{After-loop-i}

pub overflow_add-cost : goal.overflow_add-cost
overflow_add-cost c =
    let fits = assigned_limit c.args.instance.now c.args.hubs.now c.loop-i.i c.loop-j.j c.loop-j.routes.items c.loop-j.cost
    (c.least_route-route.result.first, c.least_route-route.result.last) c.size-n.ensures.problem c.requires
    (omega arith) (omega arith) c.loop-j.invariant c.least_route-route.ensures.least in
    omega (arith, fits, c.least_route-route.ensures.cost)

pub loop-j-preserved : goal.loop-j-preserved
loop-j-preserved c =
    rw (c.in_ok-push.ensures.items, c.least_route-route.ensures.cost)
    (assigned_more c.args.instance.now c.args.hubs.now c.loop-i.i c.loop-j.j c.loop-j.routes.items c.loop-j.cost
    (c.least_route-route.result.first, c.least_route-route.result.last)
    (omega arith) (omega arith) c.loop-j.invariant c.least_route-route.ensures.least)

whole : (c : After-loop-i) → IsWhole c.args.instance.now c.args.hubs.now c.loop-i.routes.items c.loop-i.cost
whole c = assigned_whole c.args.instance.now c.args.hubs.now c.loop-i.i c.loop-i.routes.items c.loop-i.cost c.size-n.ensures.problem c.requires (omega arith) c.loop-i.invariant

pub signed-requires : goal.signed-requires
signed-requires c = omega (arith, (whole (goal.at.signed-requires c).After-loop-i).limit)

pub returns-clause-routes : goal.returns-clause-routes
returns-clause-routes c = (whole (goal.at.returns-clause-routes c).After-loop-i).least

pub returns-clause-cost : goal.returns-clause-cost
returns-clause-cost c =
    let all = whole (goal.at.returns-clause-cost c).After-loop-i in
    handed_on c.signed.result c.loop-i.cost c.signed.ensures all.limit ∙ ap pos all.sum

pub returns-clause-set_cost : goal.returns-clause-set_cost
returns-clause-set_cost c =
    let all = whole (goal.at.returns-clause-set_cost c).After-loop-i in
    let P : ℕ → Type 0 = IsSetCost c.args.instance.now c.args.hubs.now in
    subst P (sym (ap natural (handed_on c.signed.result c.loop-i.cost c.signed.ensures all.limit))) all.set_cost
