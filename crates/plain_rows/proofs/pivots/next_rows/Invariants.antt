use Rattle.plain_rows.specs.Flat.{AreAfter}
use Rattle.plain_rows.proofs.pivots.next_rows.Given as goal

abbrev pub invariant-loop-i : goal.invariant-loop-i
invariant-loop-i l = AreAfter l.places l.numbers l.pivot.row l.pivot.place l.i l.spare
