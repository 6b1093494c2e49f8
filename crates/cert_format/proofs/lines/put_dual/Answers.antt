use Rattle.std.proofs.Common.{rules, ◌∙◌, ap, is_ok, is_err}
use Rattle.cert_format.proofs.Amounts.{same_amount}
use Rattle.cert_format.proofs.Written.{dual_text}
use Rattle.cert_format.proofs.Following.{as_text, then_put, then_none}
use Rattle.cert_format.proofs.lines.put_dual.Goals as goal

pub returns-in_err-put_run : goal.returns-in_err-put_run
returns-in_err-put_run g c =
    as_text (dual_text c.args.i c.args.j c.args.run c.unsigned.result c.args.a c.args.values.now (c.unsigned.ensures.value ∙ same_amount c.args.a (search rules)))
    (then_none _ c.put_run.ensures (ap is_err c.in_err-put_run.was) c.from_residual.ensures.0)

pub returns-in_err-put_values : goal.returns-in_err-put_values
returns-in_err-put_values g c =
    as_text (dual_text c.args.i c.args.j c.args.run c.unsigned.result c.args.a c.args.values.now (c.unsigned.ensures.value ∙ same_amount c.args.a (search rules)))
    (then_put c.put_run.ensures (ap is_ok c.in_ok-put_run.was)
    (then_none _ c.put_values.ensures (ap is_err c.in_err-put_values.was) c.from_residual-in_err-put_values.ensures.0))

pub returns : goal.returns
returns g c =
    as_text (dual_text c.args.i c.args.j c.args.run c.unsigned.result c.args.a c.args.values.now (c.unsigned.ensures.value ∙ same_amount c.args.a (search rules)))
    (then_put c.put_run.ensures (ap is_ok c.in_ok-put_run.was)
    (then_put c.put_values.ensures (ap is_ok c.in_ok-put_values.was)
    (c.put.ensures)))
