use Rattle.std.proofs.Common.{ap, is_ok, is_err}
use Rattle.cert_format.proofs.Following.{then_put, then_none}
use Rattle.cert_format.proofs.spaced.put_line.Goals as goal

pub returns-in_err-put_words : goal.returns-in_err-put_words
returns-in_err-put_words g c = then_none _ c.put_words.ensures (ap is_err c.in_err-put_words.was) c.from_residual.ensures.0

pub returns : goal.returns
returns g c = then_put c.put_words.ensures (ap is_ok c.in_ok-put_words.was)
    (c.put.ensures)
