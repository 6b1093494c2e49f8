use Rattle.std.proofs.Common.{length}
use Rattle.node_rounds.proofs.Closed.{IsClosing}
use Rattle.node_rounds.proofs.closing.close_up.Given as goal

abbrev pub invariant-loop-mark : goal.invariant-loop-mark
invariant-loop-mark l = IsClosing l.fn.task l.fn.progress l.fn.left l.progress l.marks.items l.nodes.items

abbrev pub decreases-loop-mark : goal.decreases-loop-mark
decreases-loop-mark l = length l.marks.items
