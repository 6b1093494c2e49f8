use Rattle.std.proofs.Common.{ap, is_ok, is_err, arith}
use Rattle.cert_format.proofs.Putting.{tree_line_bytes, tree_texts}
use Rattle.cert_format.proofs.Following.{as_text, list_more, list_stop, list_end}
use Rattle.cert_format.proofs.writer.put_tree_lines.Goals as goal

pub returns-in_err-put_tree_line : goal.returns-in_err-put_tree_line
returns-in_err-put_tree_line g c =
    as_text (tree_texts c.args.lines.now) (list_stop c.line-item.result c.loop-line.invariant c.put_tree_line.ensures (ap is_err c.in_err-put_tree_line.was) c.from_residual.ensures.0 (omega arith)
    (ap tree_line_bytes c.line-item.is))

pub loop-line-preserved : goal.loop-line-preserved
loop-line-preserved g c =
    list_more c.line-item.result c.loop-line.invariant c.put_tree_line.ensures (ap is_ok c.in_ok-put_tree_line.was) (omega arith)
    (ap tree_line_bytes c.line-item.is)

pub returns : goal.returns
returns g c = as_text (tree_texts c.args.lines.now) (list_end c.loop-line.invariant (omega arith))
