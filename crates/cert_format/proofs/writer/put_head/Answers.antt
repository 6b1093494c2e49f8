use Rattle.std.proofs.Common.{ap, is_ok, is_err}
use Rattle.cert_format.proofs.Putting.{head_text}
use Rattle.cert_format.proofs.Following.{as_text, then_put, then_none}
use Rattle.cert_format.proofs.writer.put_head.Goals as goal

pub returns-in_err-put_line : goal.returns-in_err-put_line
returns-in_err-put_line g c =
    as_text (head_text c.args.heading.now.size c.args.heading.now.candidates c.args.heading.now.cost c.args.heading.now.bound c.number-version.ensures)
    (then_none _ c.put_line.ensures (ap is_err c.in_err-put_line.was) c.from_residual.ensures.0)

pub returns-in_err-put_line-2 : goal.returns-in_err-put_line-2
returns-in_err-put_line-2 g c =
    as_text (head_text c.args.heading.now.size c.args.heading.now.candidates c.args.heading.now.cost c.args.heading.now.bound c.number-version.ensures)
    (then_put c.put_line.ensures (ap is_ok c.in_ok-put_line.was)
    (then_none _ c.put_line-2.ensures (ap is_err c.in_err-put_line-2.was) c.from_residual-in_err-put_line-2.ensures.0))

pub returns-in_err-put_line-3 : goal.returns-in_err-put_line-3
returns-in_err-put_line-3 g c =
    as_text (head_text c.args.heading.now.size c.args.heading.now.candidates c.args.heading.now.cost c.args.heading.now.bound c.number-version.ensures)
    (then_put c.put_line.ensures (ap is_ok c.in_ok-put_line.was)
    (then_put c.put_line-2.ensures (ap is_ok c.in_ok-put_line-2.was)
    (then_none _ c.put_line-3.ensures (ap is_err c.in_err-put_line-3.was) c.from_residual-in_err-put_line-3.ensures.0)))

pub returns : goal.returns
returns g c =
    as_text (head_text c.args.heading.now.size c.args.heading.now.candidates c.args.heading.now.cost c.args.heading.now.bound c.number-version.ensures)
    (then_put c.put_line.ensures (ap is_ok c.in_ok-put_line.was)
    (then_put c.put_line-2.ensures (ap is_ok c.in_ok-put_line-2.was)
    (then_put c.put_line-3.ensures (ap is_ok c.in_ok-put_line-3.was)
    (c.put_line-4.ensures))))
