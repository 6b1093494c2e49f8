use Rattle.std.proofs.Common.{ap, is_ok, is_err}
use Rattle.dec_text.proofs.PutPieces.{two_stop, two_on, fixed_is}
use Rattle.dec_text.proofs.numbers.put_with_point.Goals as goal

pub returns-in_err-put_count : goal.returns-in_err-put_count
returns-in_err-put_count g c =
    two_stop _ _ _ _ _ _ _ _ _ _ (fixed_is c.args.places c.args.value _ _ c.split_at_places-whole.ensures.whole c.split_at_places-whole.ensures.decimals)
    (ap is_err c.in_err-put_count.was) c.from_residual.ensures.0 c.put_count.ensures

pub returns : goal.returns
returns g c =
    two_on _ _ _ _ _ _ _ _ _ _ _ (fixed_is c.args.places c.args.value _ _ c.split_at_places-whole.ensures.whole c.split_at_places-whole.ensures.decimals)
    (ap is_ok c.in_ok-put_count.was) c.put_count.ensures c.put_decimals.ensures
