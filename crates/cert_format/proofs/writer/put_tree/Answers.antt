use Rattle.std.proofs.Common.{ap, is_ok, is_err}
use Rattle.cert_format.proofs.Putting.{tree_text}
use Rattle.cert_format.proofs.Following.{as_text, then_put, then_none}
use Rattle.cert_format.proofs.writer.put_tree.Goals as goal

pub returns-in_err-put_line : goal.returns-in_err-put_line
returns-in_err-put_line g c =
    as_text (tree_text c.args.lines.now)
    (then_none _ c.put_line.ensures (ap is_err c.in_err-put_line.was) c.from_residual.ensures.0)

pub returns-in_err-put_tree_lines : goal.returns-in_err-put_tree_lines
returns-in_err-put_tree_lines g c =
    as_text (tree_text c.args.lines.now)
    (then_put c.put_line.ensures (ap is_ok c.in_ok-put_line.was)
    (then_none _ c.put_tree_lines.ensures (ap is_err c.in_err-put_tree_lines.was) c.from_residual-in_err-put_tree_lines.ensures.0))

pub returns : goal.returns
returns g c =
    as_text (tree_text c.args.lines.now)
    (then_put c.put_line.ensures (ap is_ok c.in_ok-put_line.was)
    (then_put c.put_tree_lines.ensures (ap is_ok c.in_ok-put_tree_lines.was)
    (c.put_line-2.ensures)))
