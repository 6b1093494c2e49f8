use Rattle.std.proofs.Common.{ap, is_ok, is_err}
use Rattle.cert_format.proofs.Written.{stated_text}
use Rattle.cert_format.proofs.Following.{as_text, then_put, then_none}
use Rattle.cert_format.proofs.lines.put_stated_dual.Goals as goal

pub returns-in_err-put_run : goal.returns-in_err-put_run
returns-in_err-put_run g c =
    as_text (stated_text c.args.i c.args.j c.args.run c.price.result c.args.dual.now c.price.ensures.value)
    (then_none _ c.put_run.ensures (ap is_err c.in_err-put_run.was) c.from_residual.ensures.0)

pub returns-in_err-put_stated_values : goal.returns-in_err-put_stated_values
returns-in_err-put_stated_values g c =
    as_text (stated_text c.args.i c.args.j c.args.run c.price.result c.args.dual.now c.price.ensures.value)
    (then_put c.put_run.ensures (ap is_ok c.in_ok-put_run.was)
    (then_none _ c.put_stated_values.ensures (ap is_err c.in_err-put_stated_values.was) c.from_residual-in_err-put_stated_values.ensures.0))

pub returns : goal.returns
returns g c =
    as_text (stated_text c.args.i c.args.j c.args.run c.price.result c.args.dual.now c.price.ensures.value)
    (then_put c.put_run.ensures (ap is_ok c.in_ok-put_run.was)
    (then_put c.put_stated_values.ensures (ap is_ok c.in_ok-put_stated_values.was)
    c.put.ensures))
