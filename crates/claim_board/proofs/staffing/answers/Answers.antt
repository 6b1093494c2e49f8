use Rattle.std.proofs.Common.{◌∙◌}
use Rattle.claim_board.proofs.Together.{each_row}
use Rattle.claim_board.specs.Places.{hand_of}
use Rattle.claim_board.proofs.staffing.answers.Goals as goal

pub gather-requires-clause-each : goal.gather-requires-clause-each
gather-requires-clause-each g c =
    let crop = c.in_ok-seat.field-0 in
    λ _ _. each_row crop.rows.items (hand_of crop.seat).drawn c.close.result.taken c.args.blocks c.in_ok-seat.ensures.3.0 c.close.ensures.each
    (c.close.ensures.whole c.in_ok-seat.ensures.1 ∙ c.in_ok-board.ensures.board.0)
