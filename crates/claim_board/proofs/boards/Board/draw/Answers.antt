use Rattle.std.proofs.Common.{rules}
use Rattle.claim_board.proofs.Moves.{draw_keeps}
use Rattle.claim_board.proofs.boards.Board.draw.Goals as goal

pub fetch_add-next-requires : goal.fetch_add-next-requires
fetch_add-next-requires c = (search rules, search rules, draw_keeps _ _ _ _ (search rules) (search rules))
