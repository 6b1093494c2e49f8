use Rattle.std.proofs.Common.{arith}
use Rattle.hub_model.proofs.Assigned.{routed_limit, routed_more, routed_whole}
use Rattle.test_plain.proofs.assignments.set_cost.Goals as goal

pub overflow_add-total : goal.overflow_add-total
overflow_add-total c =
    let fits = routed_limit c.args.instance.now c.args.hubs.now c.loop-i.i c.loop-j.j c.loop-j.total
    (c.least_route-total.result.first, c.least_route-total.result.last) c.size-n.ensures.problem c.requires
    (omega arith) (omega arith) c.loop-j.invariant c.least_route-total.ensures.least in
    omega (arith, fits, c.least_route-total.ensures.cost)

pub loop-j-preserved : goal.loop-j-preserved
loop-j-preserved c =
    rw c.least_route-total.ensures.cost
    (routed_more c.args.instance.now c.args.hubs.now c.loop-i.i c.loop-j.j c.loop-j.total
    (c.least_route-total.result.first, c.least_route-total.result.last)
    (omega arith) (omega arith) c.loop-j.invariant c.least_route-total.ensures.least)

pub returns : goal.returns
returns c =
    routed_whole c.args.instance.now c.args.hubs.now c.loop-i.i c.loop-i.total c.size-n.ensures.problem c.requires (omega arith) c.loop-i.invariant
