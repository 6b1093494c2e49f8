use Rattle.std.proofs.Common.{ap, is_ok, is_err}
use Rattle.hub_io.proofs.Through.{through_on, through_stop}
use Rattle.dec_text.proofs.PutPieces.{two_stop, two_on}
use Rattle.hub_make.proofs.DemoJoining.{whole_text}
use Rattle.hub_make.proofs.demo_lines.put_lines.Goals as goal

pub returns-in_err-put_value : goal.returns-in_err-put_value
returns-in_err-put_value g c =
    two_stop _ _ _ _ _ _ _ _ _ _ (whole_text c.args.size c.args.cost c.args.bound c.args.hubs.now c.args.nodes)
    (ap is_err c.in_err-put_value.was) c.from_residual.ensures.0 c.put_value.ensures

pub returns-in_err-put_value-2 : goal.returns-in_err-put_value-2
returns-in_err-put_value-2 g c =
    two_on _ _ _ _ _ _ _ _ _ _ _ (whole_text c.args.size c.args.cost c.args.bound c.args.hubs.now c.args.nodes)
    (ap is_ok c.in_ok-put_value.was) c.put_value.ensures
    (through_stop _ _ _ _ _ _ _ _ _ (ap is_err c.in_err-put_value-2.was) c.from_residual-in_err-put_value-2.ensures.0 c.put_value-2.ensures)

pub returns-in_err-put_value-3 : goal.returns-in_err-put_value-3
returns-in_err-put_value-3 g c =
    two_on _ _ _ _ _ _ _ _ _ _ _ (whole_text c.args.size c.args.cost c.args.bound c.args.hubs.now c.args.nodes)
    (ap is_ok c.in_ok-put_value.was) c.put_value.ensures
    (through_on _ _ _ _ _ _ _ _ _ _ (ap is_ok c.in_ok-put_value-2.was) c.put_value-2.ensures
    (through_stop _ _ _ _ _ _ _ _ _ (ap is_err c.in_err-put_value-3.was) c.from_residual-in_err-put_value-3.ensures.0 c.put_value-3.ensures))

pub returns-in_err-put_hubs : goal.returns-in_err-put_hubs
returns-in_err-put_hubs g c =
    two_on _ _ _ _ _ _ _ _ _ _ _ (whole_text c.args.size c.args.cost c.args.bound c.args.hubs.now c.args.nodes)
    (ap is_ok c.in_ok-put_value.was) c.put_value.ensures
    (through_on _ _ _ _ _ _ _ _ _ _ (ap is_ok c.in_ok-put_value-2.was) c.put_value-2.ensures
    (through_on _ _ _ _ _ _ _ _ _ _ (ap is_ok c.in_ok-put_value-3.was) c.put_value-3.ensures
    (through_stop _ _ _ _ _ _ _ _ _ (ap is_err c.in_err-put_hubs.was) c.from_residual-in_err-put_hubs.ensures.0 c.put_hubs.ensures)))

pub returns : goal.returns
returns g c =
    two_on _ _ _ _ _ _ _ _ _ _ _ (whole_text c.args.size c.args.cost c.args.bound c.args.hubs.now c.args.nodes)
    (ap is_ok c.in_ok-put_value.was) c.put_value.ensures
    (through_on _ _ _ _ _ _ _ _ _ _ (ap is_ok c.in_ok-put_value-2.was) c.put_value-2.ensures
    (through_on _ _ _ _ _ _ _ _ _ _ (ap is_ok c.in_ok-put_value-3.was) c.put_value-3.ensures
    (through_on _ _ _ _ _ _ _ _ _ _ (ap is_ok c.in_ok-put_hubs.was) c.put_hubs.ensures c.put_value-4.ensures)))
