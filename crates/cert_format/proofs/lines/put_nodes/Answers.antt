use Rattle.std.proofs.Common.{refl, ap, is_ok, is_err, arith}
use Rattle.cert_format.proofs.Following.{list_more, list_stop, list_end}
use Rattle.cert_format.proofs.lines.put_nodes.Goals as goal

pub returns-in_err-put_number : goal.returns-in_err-put_number
returns-in_err-put_number g c =
    list_stop 0 c.loop-node.invariant c.put_number.ensures (ap is_err c.in_err-put_number.was) c.from_residual.ensures.0 (omega arith)
    refl

pub loop-node-preserved : goal.loop-node-preserved
loop-node-preserved g c =
    list_more 0 c.loop-node.invariant c.put_number.ensures (ap is_ok c.in_ok-put_number.was) (omega arith)
    refl

pub returns : goal.returns
returns g c = list_end c.loop-node.invariant (omega arith)
