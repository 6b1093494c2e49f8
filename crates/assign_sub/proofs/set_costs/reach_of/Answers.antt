use Rattle.std.proofs.Common.{sym, ◌∙◌, arith}
use Rattle.hub_spec.proofs.BestRoutes.{hub_is_node}
use Rattle.unit_duals.proofs.LeastNumbers.{least_of-none, least_step, least_all}
use Rattle.assign_sub.specs.LeastLengths.{reach_by, least_reach}
use Rattle.assign_sub.proofs.set_costs.reach_of.Goals as goal

pub loop-x-init : goal.loop-x-init
loop-x-init c =
    let f = reach_by c.args.instance.now c.args.hubs.now c.args.i c.args.m in
    c.reach_by-least.ensures.value ∙ sym (least_of-none (f 0) f)

pub reach_by-requires-clause-first : goal.reach_by-requires-clause-first
reach_by-requires-clause-first c =
    hub_is_node c.args.instance.now c.args.hubs.now c.loop-x.x c.requires.problem c.requires.set c.loop-x-test.true

pub loop-x-preserved : goal.loop-x-preserved
loop-x-preserved c =
    let f = reach_by c.args.instance.now c.args.hubs.now c.args.i c.args.m in
    least_step (f 0) f c.loop-x.x c.loop-x.least c.reach_by.result c.min-least.result c.loop-x.invariant c.reach_by.ensures.value
    c.min-least.ensures

pub returns : goal.returns
unfolding least_reach
returns c =
    let f = reach_by c.args.instance.now c.args.hubs.now c.args.i c.args.m in
    least_all (f 0) f c.loop-x.x _ c.loop-x.least c.loop-x.invariant (omega arith)
