use Rattle.std.proofs.Common.{ap, is_ok, is_err, ◌∙◌}
use Rattle.dec_text.proofs.PutPieces.{two_stop, two_on, padded_is}
use Rattle.dec_text.proofs.numbers.put_padded.Goals as goal

pub returns-in_err-put_zeros : goal.returns-in_err-put_zeros
returns-in_err-put_zeros g c =
    two_stop _ _ _ _ _ _ _ _ _ _ (padded_is c.args.width c.args.number c.saturating_sub.result c.as_bytes-text.result.now (c.as_bytes-text.ensures.value ∙ c.format.ensures.text) c.saturating_sub.ensures)
    (ap is_err c.in_err-put_zeros.was) c.from_residual.ensures.0 c.put_zeros.ensures

pub returns : goal.returns
returns g c =
    two_on _ _ _ _ _ _ _ _ _ _ _ (padded_is c.args.width c.args.number c.saturating_sub.result c.as_bytes-text.result.now (c.as_bytes-text.ensures.value ∙ c.format.ensures.text) c.saturating_sub.ensures)
    (ap is_ok c.in_ok-put_zeros.was) c.put_zeros.ensures c.put.ensures
