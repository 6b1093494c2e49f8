use Rattle.std.proofs.Common.{sym, ◌∙◌, arith}
use Rattle.hub_model.proofs.ServedCommodities.{lacked_next, lacked_here, none_is_lacked}
use Rattle.leg_duals.proofs.NearestHubs.{few_members}
use Rattle.leg_duals.proofs.serving.lacking_within.Goals as goal

pub set_nearest-requires-clause-room : goal.set_nearest-requires-clause-room
set_nearest-requires-clause-room c =
    omega (arith, few_members c.args.instance.now c.args.hubs.now c.requires.problem c.requires.set, c.requires.problem.size_limit, c.loop-i-test.array_long)

pub is_served-requires-clause-room : goal.is_served-requires-clause-room
is_served-requires-clause-room c =
    omega (arith, few_members c.args.instance.now c.args.hubs.now c.requires.problem c.requires.set, c.requires.problem.size_limit, c.loop-j-test.array_long)

pub returns-then-not-is_served : goal.returns-then-not-is_served
returns-then-not-is_served c =
    lacked_here c.args.instance.now c.args.hubs.now c.loop-i.i c.loop-j.j (omega arith) (omega arith) c.loop-j.invariant
    (sym c.is_served.ensures ∙ c.if-not-is_served.true)

pub loop-j-preserved : goal.loop-j-preserved
loop-j-preserved c =
    lacked_next c.args.instance.now c.args.hubs.now c.loop-i.i c.loop-j.j (omega arith) (omega arith) c.loop-j.invariant
    (sym c.is_served.ensures ∙ c.if-not-is_served.false)

pub returns : goal.returns
returns c = none_is_lacked c.args.instance.now c.args.hubs.now c.loop-i.i (omega arith) (omega arith) c.loop-i.invariant
