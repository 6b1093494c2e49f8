use Rattle.std.proofs.Common.{arith}
use Rattle.hub_model.proofs.Assigned.{routed_limit, routed_more, assigned_whole, IsWhole}
use Rattle.assign_sub.proofs.limited.cost_of_limited.Goals as goal
use Rattle.assign_sub.proofs.limited.cost_of_limited.Goals.{After-loop-i}

pub overflow_add-total : goal.overflow_add-total
overflow_add-total c =
    let fits = routed_limit c.args.instance.now c.args.hubs.now c.loop-i.i c.loop-j.j c.loop-j.total
    (c.limited_route-total.result.first, c.limited_route-total.result.last) c.size-n.ensures.problem c.requires (omega arith) (omega arith)
    c.loop-j.invariant c.limited_route-total.ensures.least in
    omega (arith, fits, c.limited_route-total.ensures.cost)

pub loop-j-preserved : goal.loop-j-preserved
loop-j-preserved c =
    rw c.limited_route-total.ensures.cost
    (routed_more c.args.instance.now c.args.hubs.now c.loop-i.i c.loop-j.j c.loop-j.total
    (c.limited_route-total.result.first, c.limited_route-total.result.last) (omega arith) (omega arith) c.loop-j.invariant c.limited_route-total.ensures.least)

whole : (c : After-loop-i) → IsWhole c.args.instance.now c.args.hubs.now c.loop-i.invariant.routes c.loop-i.total
whole c =
    assigned_whole c.args.instance.now c.args.hubs.now c.loop-i.i c.loop-i.invariant.routes c.loop-i.total c.size-n.ensures.problem c.requires
    (omega arith) c.loop-i.invariant.assigned

pub returns-clause-value : goal.returns-clause-value
returns-clause-value c = (whole (goal.at.returns-clause-value c).After-loop-i).set_cost

pub returns-clause-limit : goal.returns-clause-limit
returns-clause-limit c = (whole (goal.at.returns-clause-limit c).After-loop-i).limit
