use Rattle.std.proofs.Common.{◌∙◌, arith}
use Rattle.cert_scan.specs.Versions.{version_number}
use Rattle.cut_pool.specs.Kept.{kept_of}
use Rattle.proof_text.specs.Certificates.{mark_said}
use Rattle.proof_text.proofs.CutRows.{next_made}
use Rattle.proof_text.proofs.marks.said_marks.Goals as goal

pub loop-place-preserved : goal.loop-place-preserved
loop-place-preserved c =
    c.in_ok-push.ensures.items
    ∙ next_made (mark_said (version_number c.args.version)) c.args.cuts.now.cuts c.loop-place.place (kept_of c.cut.result.now) c.loop-place.marks.items
    c.in_ok-said_again.field-0 (omega (arith, c.len-place-end.ensures)) c.cut.ensures c.in_ok-said_again.ensures c.loop-place.invariant
