use Rattle.std.proofs.Common.{slice_index, sym, arith}
use Rattle.leg_duals.proofs.StopRoutes.{no_flow_cost, no_flow_route}
use Rattle.assign_sub.proofs.limited.limited_route.Goals as goal

pub returns-then-flow-eq0-clause-least : goal.returns-then-flow-eq0-clause-least
returns-then-flow-eq0-clause-least c =
    rw c.route_without_flow.ensures
    (no_flow_route c.args.instance.now c.args.hubs.now c.args.i c.args.j c.requires.set (omega (arith, c.flow_between-flow.ensures.value)))

pub returns-then-flow-eq0-clause-cost : goal.returns-then-flow-eq0-clause-cost
returns-then-flow-eq0-clause-cost c =
    let h = slice_index c.args.hubs.now 0 in
    rw c.route_without_flow.ensures
    (sym (no_flow_cost c.args.instance.now c.args.i c.args.j h h (omega (arith, c.flow_between-flow.ensures.value))))
