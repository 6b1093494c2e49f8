use Rattle.std.proofs.Common.{refl, ap, is_ok, is_err}
use Rattle.cert_scan.specs.Versions.{version_number}
use Rattle.cert_format.proofs.Putting.{whole_cut_text}
use Rattle.cert_format.proofs.Following.{as_text, then_put, then_none}
use Rattle.cert_format.proofs.writer.put_unmarked.Goals as goal

pub returns-in_err-put_cut : goal.returns-in_err-put_cut
returns-in_err-put_cut g c =
    as_text (whole_cut_text (version_number c.args.version) c.args.n c.args.x c.args.cut.now c.part.ensures refl)
    (then_none _ c.put_cut.ensures (ap is_err c.in_err-put_cut.was) c.from_residual.ensures.0)

pub returns : goal.returns
returns g c =
    as_text (whole_cut_text (version_number c.args.version) c.args.n c.args.x c.args.cut.now c.part.ensures refl)
    (then_put c.put_cut.ensures (ap is_ok c.in_ok-put_cut.was)
    (c.put_duals.ensures))
