use Rattle.node_rounds.proofs.Settling.{IsPuttingBack}
use Rattle.node_rounds.proofs.left.put_back.Given as goal

abbrev pub invariant-loop-place : goal.invariant-loop-place
invariant-loop-place l = IsPuttingBack l.initial.left l.initial.places.items l.left l.places.items

abbrev pub decreases-loop-place : goal.decreases-loop-place
decreases-loop-place l = goal.left-loop-place l
