use Rattle.std.proofs.Common.{ap, is_ok, is_err}
use Rattle.cert_format.proofs.Following.{then_put, then_none}
use Rattle.cert_format.proofs.spaced.put_words.Goals as goal

pub returns-in_err-put : goal.returns-in_err-put
returns-in_err-put g c = then_none _ c.put.ensures (ap is_err c.in_err-put.was) c.from_residual.ensures.0

pub returns : goal.returns
returns g c = then_put c.put.ensures (ap is_ok c.in_ok-put.was)
    (c.put_numbers.ensures)
