use Rattle.std.proofs.Common.{◌≡◌, ℕ, ◌+◌, ◌*◌, ◌≤◌, length, List, get_or, All, Option, sym, ap, subst, ◌∙◌, arith}
use Rattle.std.specs.Option.{IfSome, IfNone}
use Rattle.std.proofs.lemmas.Bool.{false≢true}
use Rattle.std.proofs.lemmas.List.Elements.{All-nil, All-get_or}
use Rattle.std.proofs.lemmas.Nat.{mul-le}
use Rattle.hub_spec.specs.Cuts.{Cut, IsCut}
use Rattle.hub_spec.specs.Ranges.{IsCutInRange}
use Rattle.core_spec.specs.CoreCuts.{Mark}
use Rattle.dual_lines.specs.Lines.{ListedDual}
use Rattle.cert_spec.proofs.PartConditions.{first_cut_line}
use Rattle.cert_scan.specs.Versions.{version_number}
use Rattle.cert_format.specs.Parts.{HasProofs}
use Rattle.cert_format.proofs.Putting.{proved_marks, proved_at}
use Rattle.cert_conditions.specs.declared.kinds.Kind as code
use Rattle.cert_checker.specs.Older.{cut_lines, CutFails}
use Rattle.cert_checker.proofs.OlderCuts.{IsNext, none_before, one_more_before, next_fails, size_fails, all_before, none_fails}
use Rattle.cert_checker.proofs.older.check_cuts.Goals as goal
use Rattle.cert_checker.proofs.older.check_cuts.Given.{Over}
use Rattle.cert_checker.proofs.older.check_cuts.Goals.{After-index-marks-x}

-- ---- the size

pub returns-then-not-is_of_size-clause-fails : goal.returns-then-not-is_of_size-clause-fails
returns-then-not-is_of_size-clause-fails g c =
    size_fails c.args.instance.now c.args.certificate.now c.is_of_size.ensures.in_range
    (λ h. false≢true (sym c.if-not-is_of_size.true ∙ c.is_of_size.ensures.is.1 h))

pub returns-then-not-is_of_size-clause-only : goal.returns-then-not-is_of_size-clause-only
returns-then-not-is_of_size-clause-only g c =
    λ has. absurd (false≢true (sym c.if-not-is_of_size.true ∙ c.is_of_size.ensures.is.1 (has.size, has.candidates)))

-- ---- cut by cut

pub loop-x-init : goal.loop-x-init
loop-x-init g c =
    let p = c.args.instance.now in
    let k = c.args.certificate.now in
    let n = c.size-n.result in
    let sized = c.is_of_size.ensures.is.0 c.if-not-is_of_size.false in
    let most : n ≤ 200 = omega (arith, c.size-n.ensures.value, c.size-n.ensures.problem.size_limit) in
    let few = mul-le n n 200 200 most most in
    record {
      same = ap (λ (d : ListedDual). d.problem) c.in_ok-duals.ensures;
      before = none_before p k (7 + n * n) (ap first_cut_line (c.size-n.ensures.value ∙ sym sized.0)) (All-nil (IsCut p));
      limit = omega (arith, few);
    }

-- the next cut, its duals and its mark
next_cut : (g : Over) (c : After-index-marks-x g) → IsNext c.args.certificate.now c.loop-x.x c.index-cuts-x.result c.index-marks-x.result
next_cut g c =
    let x = c.loop-x.x in record {
      within = omega (arith, c.loop-x-test.true, ap length c.cuts-cuts.ensures.value);
      one_for_each = c.cuts-cuts.ensures.in_range.one_for_each;
      cut_is = c.index-cuts-x.is ∙ ap (λ (cs : List Cut). get_or cs x c.index-cuts-x.result) c.cuts-cuts.ensures.value;
      mark_is = c.index-marks-x.is ∙ ap (λ (ms : List (Option Mark)). get_or ms x c.index-marks-x.result) c.marks-marks.ensures.value;
    }

cut_in_range : (g : Over) (c : After-index-marks-x g) → IsCutInRange c.args.instance.now.size c.index-cuts-x.result
cut_in_range g c =
    let p = c.args.instance.now in
    let k = c.args.certificate.now in
    let next = next_cut g c in
    let sized = c.is_of_size.ensures.is.0 c.if-not-is_of_size.false in
    let all = subst (λ (n : ℕ). All (IsCutInRange n) k.proof.cuts) sized.0 c.cuts-cuts.ensures.in_range.proof.cuts in
    subst (IsCutInRange p.size) (sym next.cut_is) (All-get_or (IsCutInRange p.size) k.proof.cuts c.loop-x.x c.index-cuts-x.result next.within all)

has_proofs : (g : Over) (c : After-index-marks-x g) → HasProofs c.args.instance.now.size c.index-marks-x.result
has_proofs g c =
    let p = c.args.instance.now in
    let sized = c.is_of_size.ensures.is.0 c.if-not-is_of_size.false in
    proved_at p.size c.marks-marks.result.now c.loop-x.x c.index-marks-x.result
    (omega (arith, (next_cut g c).within, (next_cut g c).one_for_each, ap length c.marks-marks.ensures.value)) c.index-marks-x.is
    (proved_marks p.size c.args.certificate.now c.marks-marks.result.now c.marks-marks.ensures.in_range c.marks-marks.ensures.value (sym sized.0))

pub failure_of-requires-clause-same : goal.failure_of-requires-clause-same
failure_of-requires-clause-same g c = c.loop-x.invariant.same

pub failure_of-requires-clause-cut : goal.failure_of-requires-clause-cut
failure_of-requires-clause-cut g c = cut_in_range g (goal.at.failure_of-requires-clause-cut g c).After-index-marks-x

-- ---- one that fails

pub returns-in-Some-clause-fails : goal.returns-in-Some-clause-fails
returns-in-Some-clause-fails g c =
    let at = (goal.at.returns-in-Some-clause-fails g c).After-index-marks-x in
    let p = c.args.instance.now in
    let k = c.args.certificate.now in
    let cut = c.index-cuts-x.result in
    let mark = c.index-marks-x.result in
    let found : code.Kind × ℕ = (c.in-Some.kind, c.in-Some.place) in
    let failing = subst (λ (o : Option (code.Kind × ℕ)). IfSome o (CutFails (version_number c.version-version.result) p cut mark)) c.in-Some.is
    c.in_ok-kind.ensures.fails in
    next_fails p k c.loop-x.x c.loop-x.line c.in-Some.place cut mark c.in-Some.kind c.cuts-cuts.ensures.in_range
    (c.is_of_size.ensures.is.0 c.if-not-is_of_size.false) (next_cut g at) c.size-n.ensures.problem.some_node (cut_in_range g at).one_for_each (has_proofs g at)
    (subst (λ (v : ℕ). CutFails v p cut mark found) c.version-version.ensures failing) c.loop-x.invariant.before

pub returns-in-Some-clause-only : goal.returns-in-Some-clause-only
returns-in-Some-clause-only g c =
    λ has. absurd (none_fails c.args.instance.now c.args.certificate.now c.in-Some.kind (c.loop-x.line + c.in-Some.place) c.cuts-cuts.ensures.in_range (returns-in-Some-clause-fails g c) has)

-- ---- and one that does not

pub loop-x-preserved : goal.loop-x-preserved
loop-x-preserved g c =
    let p = c.args.instance.now in
    let k = c.args.certificate.now in
    let n = c.size-n.result in
    let cut = c.index-cuts-x.result in
    let mark = c.index-marks-x.result in
    let most : n ≤ 200 = omega (arith, c.size-n.ensures.value, c.size-n.ensures.problem.size_limit) in
    let few = mul-le n n 200 200 most most in
    let later : c.loop-x.line + c.lines_of-line.result ≡ c.loop-x.line + cut_lines k.proof.version p.size cut mark =
    ap (λ (m : ℕ). c.loop-x.line + m)
    (c.lines_of-line.ensures.value
    ∙ ap (λ (m : ℕ). cut_lines (version_number c.version-version.result) m cut mark) c.size-n.ensures.value
    ∙ ap (λ (v : ℕ). cut_lines v p.size cut mark) c.version-version.ensures) in
    let is = subst (λ o. IfNone o (IsCut p cut)) c.in_default.is c.in_ok-kind.ensures.holds in
    record {
      same = c.in_ok-kind.ensures.same;
      before = one_more_before p k c.loop-x.x c.loop-x.line (c.loop-x.line + c.lines_of-line.result) cut mark (next_cut g (goal.at.loop-x-preserved g c).After-index-marks-x) is later c.loop-x.invariant.before;
      limit = omega (arith, few, c.lines_of-line.ensures.limit, c.loop-x.invariant.limit);
    }

pub returns-clause-holds : goal.returns-clause-holds
returns-clause-holds g c =
    all_before c.args.instance.now c.args.certificate.now c.loop-x.x c.loop-x.line (c.is_of_size.ensures.is.0 c.if-not-is_of_size.false)
    (omega (arith, c.loop-x-test.false, ap length c.cuts-cuts.ensures.value)) c.loop-x.invariant.before
