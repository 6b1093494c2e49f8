use Rattle.std.proofs.Common.{rules}
use Rattle.claim_board.proofs.Moves.{split_keeps}
use Rattle.claim_board.proofs.boards.Board.split.Goals as goal

pub split_seat-new-requires : goal.split_seat-new-requires
split_seat-new-requires c = (search rules, search rules, split_keeps _ _ _ (search rules))
