use Rattle.std.proofs.Common.{◌≡◌, ◌-◌, length}
use Rattle.claim_board.specs.Places.{hand_of, IsSeatOf}
use Rattle.claim_board.specs.Crops.{AreRows}
use Rattle.claim_board.proofs.working.work.Given as goal

abbrev pub invariant-loop-block : goal.invariant-loop-block
invariant-loop-block g l =
    IsSeatOf l.board l.seat
    × ((hand_of l.seat).share ≡ (hand_of l.initial.seat).share)
    × AreRows (g.J.Job.answer l.job) (hand_of l.seat).drawn l.rows.items
    × g.J.Job.serves l.job l.scratch

abbrev pub decreases-loop-block : goal.decreases-loop-block
decreases-loop-block g l = l.board.blocks - length (hand_of l.seat).drawn
