use Rattle.std.proofs.Common.{[], sym, subst, ◌∙◌, arith}
use Rattle.std.proofs.lemmas.List.Elements.{All-get_or}
use Rattle.cut_pool.specs.Kept.{by_set, kept_of, kept_cut, IsKeptFor}
use Rattle.proof_text.proofs.FoundLines.{same_place}
use Rattle.proof_text.proofs.CutRows.{next_made}
use Rattle.proof_text.proofs.certificates.lent_cuts.Goals as goal

pub stated_cut-requires-clause-fits : goal.stated_cut-requires-clause-fits
stated_cut-requires-clause-fits c =
    let p = c.args.instance.now in
    let kept = c.args.cuts.now.cuts in
    subst (IsKeptFor p) (sym (c.cut-kept.ensures ∙ same_place kept c.loop-place.place))
    (All-get_or (IsKeptFor p) kept c.loop-place.place (by_set [] []) (omega (arith, c.len-place-end.ensures)) c.requires.fit)

pub loop-place-preserved : goal.loop-place-preserved
loop-place-preserved c =
    let p = c.args.instance.now in
    let one = kept_of c.cut-kept.result.now in
    record {
      lender = c.in_ok-stated_cut.ensures.lender;
      stated = c.in_ok-push.ensures.items
          ∙ next_made (kept_cut p) c.args.cuts.now.cuts c.loop-place.place one c.loop-place.all.items c.in_ok-stated_cut.field-0
          (omega (arith, c.len-place-end.ensures)) c.cut-kept.ensures c.in_ok-stated_cut.ensures.cut c.loop-place.invariant.stated;
    }
