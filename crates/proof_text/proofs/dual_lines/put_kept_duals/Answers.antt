use Rattle.std.proofs.Common.{flat_map, ap, is_ok, is_err, arith}
use Rattle.std.specs.List.{range_with_len}
use Rattle.std.proofs.lemmas.List.FromFn.{length-range_with_len}
use Rattle.cert_spec.specs.Text.{line_bytes}
use Rattle.cert_scan.specs.Versions.{version_number}
use Rattle.cert_format.proofs.Following.{as_text, list_more, list_stop, list_end}
use Rattle.cert_format.proofs.Joined.{texts_joined}
use Rattle.cut_pool.specs.Kept.{kept_of}
use Rattle.proof_text.specs.Certificates.{mark_said}
use Rattle.proof_text.specs.Texts.{duals_with}
use Rattle.proof_text.proofs.Ranges.{at_number}
use Rattle.proof_text.proofs.dual_lines.put_kept_duals.Goals as goal

pub returns-in_err-put_origin-clause-lender : goal.returns-in_err-put_origin-clause-lender
returns-in_err-put_origin-clause-lender g c = c.put_origin.ensures.ready.lender

pub returns-in_err-put_origin-clause-lines : goal.returns-in_err-put_origin-clause-lines
returns-in_err-put_origin-clause-lines g c =
    let v = version_number c.args.cut.now.version in
    let p = c.args.cut.now.instance.now in
    let kept = kept_of c.args.cut.now.kept.now in
    let items = duals_with v p kept (mark_said v kept) in
    as_text (texts_joined items (range_with_len 0 p.size))
    (list_stop 0 c.loop-i.invariant.put c.put_origin.ensures.lines (ap is_err c.in_err-put_origin.was) c.from_residual.ensures.0
    (omega (arith, length-range_with_len 0 p.size))
    (at_number (λ i. flat_map line_bytes (items i)) p.size c.loop-i.i (omega arith)))

pub loop-i-preserved : goal.loop-i-preserved
loop-i-preserved g c =
    let v = version_number c.args.cut.now.version in
    let p = c.args.cut.now.instance.now in
    let kept = kept_of c.args.cut.now.kept.now in
    record {
      ready = c.put_origin.ensures.ready;
      put = list_more 0 c.loop-i.invariant.put c.put_origin.ensures.lines (ap is_ok c.in_ok-put_origin.was)
          (omega (arith, length-range_with_len 0 p.size))
          (at_number (λ i. flat_map line_bytes (duals_with v p kept (mark_said v kept) i)) p.size c.loop-i.i (omega arith));
    }

pub returns-clause-lender : goal.returns-clause-lender
returns-clause-lender g c = c.loop-i.invariant.ready.lender

pub returns-clause-lines : goal.returns-clause-lines
returns-clause-lines g c =
    let v = version_number c.args.cut.now.version in
    let p = c.args.cut.now.instance.now in
    let kept = kept_of c.args.cut.now.kept.now in
    as_text (texts_joined (duals_with v p kept (mark_said v kept)) (range_with_len 0 p.size))
    (list_end c.loop-i.invariant.put (omega (arith, length-range_with_len 0 p.size)))
