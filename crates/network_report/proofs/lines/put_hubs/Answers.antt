use Rattle.std.proofs.Common.{ap, is_ok, is_err}
use Rattle.cert_format.proofs.Following.{then_put, then_none}
use Rattle.network_report.proofs.lines.put_hubs.Goals as goal

pub returns-in_err-put : goal.returns-in_err-put
returns-in_err-put g c = then_none _ c.put.ensures (ap is_err c.in_err-put.was) c.from_residual.ensures.0

pub returns-in_err-put_nodes : goal.returns-in_err-put_nodes
returns-in_err-put_nodes g c =
    then_put c.put.ensures (ap is_ok c.in_ok-put.was)
    (then_none _ c.put_nodes.ensures (ap is_err c.in_err-put_nodes.was) c.from_residual-in_err-put_nodes.ensures.0)

pub returns : goal.returns
returns g c =
    then_put c.put.ensures (ap is_ok c.in_ok-put.was)
    (then_put c.put_nodes.ensures (ap is_ok c.in_ok-put_nodes.was)
    c.put-2.ensures)
