use Rattle.std.proofs.Common.{◌-◌, ◌/◌, arith}
use Rattle.std.proofs.lemmas.Result.{IfOk-at_ok}
use Rattle.claim_board.specs.Crops.{IsCropOf}
use Rattle.claim_board.proofs.Together.{two_crops}
use Rattle.claim_board.proofs.staffing.+staff.Goals as goal

pub returns : goal.returns
returns g t c =
    let answer = g.J.Job.answer c.args.job.now in
    let board = c.args.board.now in
    let half = c.args.workers / 2 in
    two_crops answer board (c.args.workers - half) half c.args.workers c.in_ok-seat.field-0 c.in_ok-other.field-0 c.join.result c.append.new.self.items
    (IfOk-at_ok (IsCropOf answer board (c.args.workers - half)) c.in_ok-seat.was c.join-b.ensures.second)
    (IfOk-at_ok (IsCropOf answer board half) c.in_ok-other.was c.join-b.ensures.first)
    (omega arith)
    c.join.ensures.seat
    c.join.ensures.both
    c.in_ok-append.ensures.items
