use Rattle.std.proofs.Common.{length}
use Rattle.node_rounds.proofs.Turned.{IsTurning}
use Rattle.node_rounds.proofs.searching.take_all.Given as goal

abbrev pub invariant-loop-front : goal.invariant-loop-front
invariant-loop-front g l = IsTurning l.fn.task l.fn.front.progress l.fn.left l.front l.left l.outcomes.items × g.S.Separator.ready l.separator

abbrev pub decreases-loop-front : goal.decreases-loop-front
decreases-loop-front g l = length l.left.marks.items
