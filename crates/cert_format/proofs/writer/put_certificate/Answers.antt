use Rattle.std.proofs.Common.{ap, is_ok, is_err}
use Rattle.cert_format.proofs.Putting.{parts_text}
use Rattle.cert_format.proofs.Following.{as_text, then_put, then_none}
use Rattle.cert_format.proofs.writer.put_certificate.Goals as goal

pub returns-in_err-put_top : goal.returns-in_err-put_top
returns-in_err-put_top g c =
    as_text (parts_text c.args.certificate.now c.heading-heading.result.now c.cuts-cuts.result.now c.marks-marks.result.now c.tree-tree.result.now
    c.heading-heading.ensures.value c.version-version.ensures c.size-n.ensures.value c.plan-plan.ensures.value c.cuts-cuts.ensures.value c.marks-marks.ensures.value c.tree-tree.ensures.value)
    (then_none _ c.put_top.ensures (ap is_err c.in_err-put_top.was) c.from_residual.ensures.0)

pub returns-in_err-put_cuts : goal.returns-in_err-put_cuts
returns-in_err-put_cuts g c =
    as_text (parts_text c.args.certificate.now c.heading-heading.result.now c.cuts-cuts.result.now c.marks-marks.result.now c.tree-tree.result.now
    c.heading-heading.ensures.value c.version-version.ensures c.size-n.ensures.value c.plan-plan.ensures.value c.cuts-cuts.ensures.value c.marks-marks.ensures.value c.tree-tree.ensures.value)
    (then_put c.put_top.ensures (ap is_ok c.in_ok-put_top.was)
    (then_none _ c.put_cuts.ensures (ap is_err c.in_err-put_cuts.was) c.from_residual-in_err-put_cuts.ensures.0))

pub returns : goal.returns
returns g c =
    as_text (parts_text c.args.certificate.now c.heading-heading.result.now c.cuts-cuts.result.now c.marks-marks.result.now c.tree-tree.result.now
    c.heading-heading.ensures.value c.version-version.ensures c.size-n.ensures.value c.plan-plan.ensures.value c.cuts-cuts.ensures.value c.marks-marks.ensures.value c.tree-tree.ensures.value)
    (then_put c.put_top.ensures (ap is_ok c.in_ok-put_top.was)
    (then_put c.put_cuts.ensures (ap is_ok c.in_ok-put_cuts.was)
    (c.put_tree.ensures)))
