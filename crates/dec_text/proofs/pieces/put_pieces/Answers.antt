use Rattle.std.proofs.Common.{ap, is_ok, is_err, arith}
use Rattle.dec_text.proofs.PutPieces.{line_stop, line_more, line_end}
use Rattle.dec_text.proofs.pieces.put_pieces.Goals as goal

pub returns-in_err-put_piece : goal.returns-in_err-put_piece
returns-in_err-put_piece g c =
    c.loop-piece.invariant _ _ _ (line_stop c.args.pieces.now c.loop-piece.piece-index _ _ _ _ _ _ _ _ (omega arith) (ap is_err c.in_err-put_piece.was) c.from_residual.ensures.0 c.put_piece.ensures)

pub loop-piece-preserved : goal.loop-piece-preserved
loop-piece-preserved g c last rest r more =
    c.loop-piece.invariant last rest r (line_more c.args.pieces.now c.loop-piece.piece-index _ _ _ _ _ _ _ _ _ (omega arith) (ap is_ok c.in_ok-put_piece.was) c.put_piece.ensures more)

pub returns : goal.returns
returns g c = c.loop-piece.invariant _ _ _ (line_end c.args.pieces.now c.loop-piece.piece-index _ _ (omega arith))
