use Rattle.std.proofs.Common.{ap, is_ok, is_err, arith}
use Rattle.dec_text.proofs.PutPieces.{zero_stop, zero_more, zero_end}
use Rattle.dec_text.proofs.numbers.put_zeros.Goals as goal

pub returns-in_err-put : goal.returns-in_err-put
returns-in_err-put g c =
    c.loop-left.invariant _ _ _ (zero_stop _ _ _ _ _ c.loop-left.left _ _ (omega arith) (ap is_err c.in_err-put.was) c.from_residual.ensures.0 c.put.ensures)

pub loop-left-preserved : goal.loop-left-preserved
loop-left-preserved g c last rest r more =
    c.loop-left.invariant last rest r (zero_more _ _ _ _ _ _ c.loop-left.left _ _ (omega arith) (ap is_ok c.in_ok-put.was) c.put.ensures more)

pub returns : goal.returns
returns g c = c.loop-left.invariant _ _ _ (zero_end _ _ c.loop-left.left (omega arith))
