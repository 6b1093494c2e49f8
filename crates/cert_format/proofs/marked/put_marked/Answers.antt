use Rattle.std.proofs.Common.{refl, ap, is_ok, is_err}
use Rattle.cert_format.proofs.MarkedLines.{marked_cut_text}
use Rattle.cert_format.proofs.Following.{as_text, then_put, then_none}
use Rattle.cert_format.proofs.marked.put_marked.Goals as goal

pub returns-in_err-put_marked_cut : goal.returns-in_err-put_marked_cut
returns-in_err-put_marked_cut g c =
    as_text (marked_cut_text c.args.n c.args.x c.args.cut.now c.args.mark.now c.part.ensures c.hubs.ensures refl)
    (then_none _ c.put_marked_cut.ensures (ap is_err c.in_err-put_marked_cut.was) c.from_residual.ensures.0)

pub returns : goal.returns
returns g c =
    as_text (marked_cut_text c.args.n c.args.x c.args.cut.now c.args.mark.now c.part.ensures c.hubs.ensures c.proofs.ensures)
    (then_put c.put_marked_cut.ensures (ap is_ok c.in_ok-put_marked_cut.was)
    (c.put_proved_duals.ensures))
