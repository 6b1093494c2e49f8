use Rattle.std.proofs.Common.{sym, ◌∙◌, arith}
use Rattle.hub_model.proofs.ServedCommodities.{lacked_next, lacked_here, none_is_lacked}
use Rattle.test_plain.proofs.serving.lacking.Goals as goal

pub returns-then-not-serves : goal.returns-then-not-serves
returns-then-not-serves c =
    lacked_here c.args.instance.now c.args.hubs.now c.loop-i.i c.loop-j.j (omega arith) (omega arith) c.loop-j.invariant
    (sym c.serves.ensures ∙ c.if-not-serves.true)

pub loop-j-preserved : goal.loop-j-preserved
loop-j-preserved c =
    lacked_next c.args.instance.now c.args.hubs.now c.loop-i.i c.loop-j.j (omega arith) (omega arith) c.loop-j.invariant
    (sym c.serves.ensures ∙ c.if-not-serves.false)

pub returns : goal.returns
returns c = none_is_lacked c.args.instance.now c.args.hubs.now c.loop-i.i (omega arith) (omega arith) c.loop-i.invariant
