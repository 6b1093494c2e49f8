use Rattle.std.proofs.Common.{◌∷◌, [], flat_map, sym, ap, is_ok, is_err, append-nil}
use Rattle.cert_format.specs.Spaced.{spaced}
use Rattle.cert_format.proofs.Following.{as_text, then_put, then_none}
use Rattle.cert_format.proofs.spaced.put_pair.Goals as goal

pub returns-in_err-put_number : goal.returns-in_err-put_number
returns-in_err-put_number g c =
    then_none (flat_map spaced (c.args.second ∷ [])) c.put_number.ensures (ap is_err c.in_err-put_number.was) c.from_residual.ensures.0

pub returns : goal.returns
returns g c =
    then_put c.put_number.ensures (ap is_ok c.in_ok-put_number.was)
    (as_text (sym (append-nil (spaced c.args.second))) c.put_number-2.ensures)
