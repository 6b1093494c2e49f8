use Rattle.std.proofs.Common.{ap, is_ok, is_err}
use Rattle.cert_scan.specs.Versions.{version_number}
use Rattle.cert_format.proofs.Following.{as_text, then_put, then_none}
use Rattle.cut_pool.specs.Kept.{kept_of}
use Rattle.proof_text.proofs.FoundLines.{kept_cut_text}
use Rattle.proof_text.proofs.written.put_kept_cut.Goals as goal

pub returns-in_err-put_cut_line-clause-lines : goal.returns-in_err-put_cut_line-clause-lines
returns-in_err-put_cut_line-clause-lines g c =
    as_text (kept_cut_text (version_number c.args.cut.now.version) c.args.cut.now.instance.now c.args.cut.now.number (kept_of c.args.cut.now.kept.now) c.requires.some c.requires.fits)
    (then_none _ c.put_cut_line.ensures (ap is_err c.in_err-put_cut_line.was) c.from_residual.ensures.0)

pub returns-clause-lines : goal.returns-clause-lines
returns-clause-lines g c =
    as_text (kept_cut_text (version_number c.args.cut.now.version) c.args.cut.now.instance.now c.args.cut.now.number (kept_of c.args.cut.now.kept.now) c.requires.some c.requires.fits)
    (then_put c.put_cut_line.ensures (ap is_ok c.in_ok-put_cut_line.was) c.put_kept_duals.ensures.lines)
