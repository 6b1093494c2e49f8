use Rattle.std.proofs.Common.{ℕ, List, ◌+◌, ◌*◌, ◌≡◌, take, subst, ap, ap₂, sym, ◌∙◌, arith}
use Rattle.std.proofs.lemmas.List.{take_all}
use Rattle.hub_spec.specs.Problem.{commodities}
use Rattle.hub_spec.specs.Cuts.{Prices, Cut}
use Rattle.hub_spec.specs.Limits.{most_nodes}
use Rattle.hub_spec.specs.Ranges.{IsDualInRange}
use Rattle.hub_spec.proofs.Commodities.{next_route, length_commodities}
use Rattle.cut_pool.specs.Kept.{kept_of}
use Rattle.dual_lender.specs.Lenders.{kept_dual}
use Rattle.dual_lender.proofs.Lending.{kept_cut_is, still_ready, dual_in_range, few_nodes}
use Rattle.proof_text.proofs.CutRows.{IsDualOf, AreDualsOf, duals_are}
use Rattle.proof_text.proofs.certificates.stated_cut.Goals as goal

pub add-requires-clause-dual : goal.add-requires-clause-dual
add-requires-clause-dual c =
    let p = c.args.instance.now in
    let kept = kept_of c.args.kept.now in
    let ok = c.size-n.ensures.problem in
    subst (IsDualInRange most_nodes) (sym (c.in_ok-dual.ensures ∙ c.make.ensures.made))
    (few_nodes p.size (kept_dual p kept (c.loop-i.i, c.loop-j.j)) ok.size_limit (dual_in_range p kept c.loop-i.i c.loop-j.j ok c.requires.fits (omega arith) (omega arith)))

pub loop-j-preserved : goal.loop-j-preserved
loop-j-preserved c =
    let p = c.args.instance.now in
    let d = kept_dual p (kept_of c.args.kept.now) in
    record {
      duals = rw (ap (λ (cut : Cut). cut.duals) c.in_ok-add.ensures)
          (next_route (IsDualOf d) p.size c.loop-i.i c.loop-j.j c.loop-j.cut.duals c.in_ok-dual.dual
          (omega arith) (omega arith) c.loop-j.invariant.duals (c.in_ok-dual.ensures ∙ c.make.ensures.made));
      part = ap (λ (cut : Cut). cut.part) c.in_ok-add.ensures ∙ c.loop-j.invariant.part;
      has = c.make.ensures.duals;
    }

pub loop-i-preserved : goal.loop-i-preserved
loop-i-preserved c =
    let p = c.args.instance.now in
    let kept = kept_of c.args.kept.now in
    let row : c.loop-i.i * p.size + c.loop-j.j ≡ (c.loop-i.i + 1) * p.size =
    (let all : c.loop-j.j ≡ p.size = omega arith in omega (arith, all)) in
    record {
      duals = subst (λ (m : ℕ). AreDualsOf (kept_dual p kept) (take m (commodities p.size)) c.loop-j.cut.duals) row c.loop-j.invariant.duals;
      part = c.loop-j.invariant.part;
      ready = still_ready p kept c.loop-i.i c.loop-j.lender c.loop-j.invariant.has;
    }

pub returns-clause-cut : goal.returns-clause-cut
returns-clause-cut c =
    let p = c.args.instance.now in
    let kept = kept_of c.args.kept.now in
    let square : c.loop-i.i * p.size ≡ p.size * p.size = ap (λ (m : ℕ). m * p.size) (omega arith) in
    let whole = subst (λ (cs : List (ℕ × ℕ)). AreDualsOf (kept_dual p kept) cs c.loop-i.cut.duals)
    (take_all (c.loop-i.i * p.size) (commodities p.size) (omega (arith, square, length_commodities p.size))) c.loop-i.invariant.duals in
    c.trim.ensures
    ∙ ap₂ (λ (part : ℕ) (duals : List Prices). record { part = part; duals = duals }) c.loop-i.invariant.part
    (duals_are (kept_dual p kept) (commodities p.size) c.loop-i.cut.duals whole)
    ∙ sym (kept_cut_is p kept c.requires.fits)
