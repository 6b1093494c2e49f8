use Rattle.std.proofs.Common.{rules}
use Rattle.claim_board.proofs.Moves.{join_keeps}
use Rattle.claim_board.proofs.boards.Board.join.Goals as goal

pub join_seat-requires : goal.join_seat-requires
join_seat-requires c =
    (search rules, search rules, search rules, search rules, join_keeps _ _ _ _ _ (search rules) (search rules))
