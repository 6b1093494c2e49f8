use Rattle.std.proofs.Common.{ap, is_ok, is_err}
use Rattle.hub_io.proofs.Through.{through_on, through_stop}
use Rattle.dec_text.proofs.PutPieces.{two_stop, two_on}
use Rattle.hub_make.proofs.DemoJoining.{hubs_line}
use Rattle.hub_make.proofs.demo_lines.put_hubs.Goals as goal

pub returns-in_err-put : goal.returns-in_err-put
returns-in_err-put g c =
    two_stop _ _ _ _ _ _ _ _ _ _ (hubs_line c.args.hubs.now) (ap is_err c.in_err-put.was) c.from_residual.ensures.0 c.put.ensures

pub returns-in_err-put_nodes : goal.returns-in_err-put_nodes
returns-in_err-put_nodes g c =
    two_on _ _ _ _ _ _ _ _ _ _ _ (hubs_line c.args.hubs.now) (ap is_ok c.in_ok-put.was) c.put.ensures
    (through_stop _ _ _ _ _ _ _ _ _ (ap is_err c.in_err-put_nodes.was) c.from_residual-in_err-put_nodes.ensures.0 c.put_nodes.ensures)

pub returns : goal.returns
returns g c =
    two_on _ _ _ _ _ _ _ _ _ _ _ (hubs_line c.args.hubs.now) (ap is_ok c.in_ok-put.was) c.put.ensures
    (through_on _ _ _ _ _ _ _ _ _ _ (ap is_ok c.in_ok-put_nodes.was) c.put_nodes.ensures c.put-2.ensures)
