use Rattle.std.proofs.Common.{ap, is_ok, is_err}
use Rattle.cert_scan.specs.Versions.{version_number}
use Rattle.cert_format.proofs.Following.{as_text, then_put, then_none}
use Rattle.cut_pool.specs.Kept.{kept_of}
use Rattle.proof_text.proofs.PlaceLines.{origin_text}
use Rattle.proof_text.proofs.places.put_cut_origin.Goals as goal

pub returns-in_err-put_head-clause-lines : goal.returns-in_err-put_head-clause-lines
returns-in_err-put_head-clause-lines g c =
    as_text (origin_text (version_number c.args.cut.now.version) c.args.cut.now.instance.now c.args.cut.now.number (kept_of c.args.cut.now.kept.now) c.args.i)
    (then_none _ c.put_head.ensures (ap is_err c.in_err-put_head.was) c.from_residual.ensures.0)

pub returns-clause-lines : goal.returns-clause-lines
returns-clause-lines g c =
    as_text (origin_text (version_number c.args.cut.now.version) c.args.cut.now.instance.now c.args.cut.now.number (kept_of c.args.cut.now.kept.now) c.args.i)
    (then_put c.put_head.ensures (ap is_ok c.in_ok-put_head.was) c.put_origin.ensures.lines)
