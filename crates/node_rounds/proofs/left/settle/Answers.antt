use Rattle.node_rounds.proofs.Settling.{settling_first, settle_line}
use Rattle.node_rounds.proofs.left.settle.Goals as goal

pub loop-mark-init : goal.loop-mark-init
loop-mark-init c = settling_first c.args.left.now c.args.lines.now.items c.requires.matched c.requires.few

pub loop-mark-preserved : goal.loop-mark-preserved
loop-mark-preserved c =
    settle_line c.args.left.now c.args.lines.now.items c.loop-mark.left c.pop.new.self c.loop-mark.lines.items c.add_line.new.lines.items c.in-Some.mark
    c.in-Line.line c.loop-mark.invariant c.in-Some.ensures.items c.in-Line.is c.in_ok-add_line-in-Line.ensures.added c.in_ok-add_line-in-Line.ensures.few
