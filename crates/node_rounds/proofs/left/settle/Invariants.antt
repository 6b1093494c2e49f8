use Rattle.std.proofs.Common.{length}
use Rattle.node_rounds.proofs.Settling.{IsSettling}
use Rattle.node_rounds.proofs.left.settle.Given as goal

abbrev pub invariant-loop-mark : goal.invariant-loop-mark
invariant-loop-mark l = IsSettling l.initial.left l.initial.lines.items l.left l.lines.items

abbrev pub decreases-loop-mark : goal.decreases-loop-mark
decreases-loop-mark l = length l.left.marks.items
