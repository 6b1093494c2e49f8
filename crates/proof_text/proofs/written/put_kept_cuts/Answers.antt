use Rattle.std.proofs.Common.{[], None, ap, is_ok, is_err, sym, subst, ◌∙◌, arith}
use Rattle.std.proofs.lemmas.List.Elements.{All-get_or}
use Rattle.hub_spec.specs.Cuts.{cut_by}
use Rattle.cert_spec.specs.Text.{cut_items}
use Rattle.cert_scan.specs.Versions.{version_number}
use Rattle.cert_format.proofs.Following.{as_text, list_more, list_stop, list_end}
use Rattle.cut_pool.specs.Kept.{by_set, kept_of, IsKeptFor}
use Rattle.cert_format.proofs.Joined.{texts_joined}
use Rattle.proof_text.proofs.FoundLines.{numbered, length_numbered, same_place, kept_cut_at}
use Rattle.proof_text.proofs.written.put_kept_cuts.Goals as goal

pub put_kept_cut-requires-clause-fits : goal.put_kept_cut-requires-clause-fits
put_kept_cut-requires-clause-fits g c =
    let p = c.args.instance.now in
    let kept = c.args.cuts.now.cuts in
    subst (IsKeptFor p) (sym (c.cut-kept.ensures ∙ same_place kept c.loop-place.place))
    (All-get_or (IsKeptFor p) kept c.loop-place.place (by_set [] []) (omega (arith, c.len-place-end.ensures)) c.requires.fit)

pub returns-in_err-put_kept_cut-clause-lender : goal.returns-in_err-put_kept_cut-clause-lender
returns-in_err-put_kept_cut-clause-lender g c = c.put_kept_cut.ensures.lender

pub returns-in_err-put_kept_cut-clause-lines : goal.returns-in_err-put_kept_cut-clause-lines
returns-in_err-put_kept_cut-clause-lines g c =
    let p = c.args.instance.now in
    let kept = c.args.cuts.now.cuts in
    as_text (texts_joined (cut_items (version_number c.args.version) p.size) (numbered (version_number c.args.version) p kept))
    (list_stop (0, (cut_by [], None)) c.loop-place.invariant.put c.put_kept_cut.ensures.lines (ap is_err c.in_err-put_kept_cut.was) c.from_residual.ensures.0
    (omega (arith, length_numbered (version_number c.args.version) p kept, c.len-place-end.ensures))
    (kept_cut_at (version_number c.args.version) p kept c.loop-place.place (0, (cut_by [], None)) (kept_of c.cut-kept.result.now)
    (omega (arith, c.len-place-end.ensures)) c.cut-kept.ensures))

pub loop-place-preserved : goal.loop-place-preserved
loop-place-preserved g c =
    let p = c.args.instance.now in
    let kept = c.args.cuts.now.cuts in
    record {
      lender = c.put_kept_cut.ensures.lender;
      put = list_more (0, (cut_by [], None)) c.loop-place.invariant.put c.put_kept_cut.ensures.lines (ap is_ok c.in_ok-put_kept_cut.was)
          (omega (arith, length_numbered (version_number c.args.version) p kept, c.len-place-end.ensures))
          (kept_cut_at (version_number c.args.version) p kept c.loop-place.place (0, (cut_by [], None)) (kept_of c.cut-kept.result.now)
          (omega (arith, c.len-place-end.ensures)) c.cut-kept.ensures);
    }

pub returns-clause-lender : goal.returns-clause-lender
returns-clause-lender g c = c.loop-place.invariant.lender

pub returns-clause-lines : goal.returns-clause-lines
returns-clause-lines g c =
    let p = c.args.instance.now in
    let kept = c.args.cuts.now.cuts in
    as_text (texts_joined (cut_items (version_number c.args.version) p.size) (numbered (version_number c.args.version) p kept))
    (list_end c.loop-place.invariant.put (omega (arith, length_numbered (version_number c.args.version) p kept, c.len-place-end.ensures)))
