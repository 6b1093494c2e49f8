-- What fails first of the cuts of an older certificate, cut by cut.
use Rattle.std.proofs.Common.{◌≡◌, ℕ, ◌+◌, ◌-◌, ◌*◌, ◌<◌, ◌≤◌, false, List, [], ◌∷◌, ◌++◌, length, take, drop, get_or, All, Option, Some, None, inl, inr, refl, sym, ap, ap₂, subst, ◌∙◌, mul-pos, arith}
use Rattle.std.proofs.lemmas.Bool.{false≢true}
use Rattle.std.proofs.lemmas.List.{take_more, take_all, drop_more}
use Rattle.std.proofs.lemmas.List.Elements.{All-push}
use Rattle.std.proofs.lemmas.Slice.Zip.{get_or-zip, length-zip}
use Rattle.hub_spec.specs.Problem.{Problem, commodity_at}
use Rattle.hub_spec.specs.Cuts.{Cut, IsDual, IsCut, IsWithinSums}
use Rattle.hub_spec.specs.Certificates.{HasCutsOf}
use Rattle.core_spec.specs.CoreCuts.{Mark}
use Rattle.cert_spec.specs.Stated.{Stated, cuts_of, IsStatedInRange}
use Rattle.cert_spec.specs.Text.{dual_runs}
use Rattle.cert_spec.specs.Conditions.{Kind, Dual, Sum, claim, FailsFirst, older_conditions}
use Rattle.cert_spec.proofs.PartConditions.{first_cut_line, last_dual_line, cut_lines as lines_of_cut, dual_claims, proved_claims, one_cut_claims, cut_claims, all_cut_claims}
use Rattle.cert_spec.proofs.Claims.{cut_claimed}
use Rattle.cert_spec.proofs.ByLines.{older_by_lines, has_cuts_by_lines}
use Rattle.cert_spec.proofs.Decided.{failure_or_all}
use Rattle.cert_format.specs.Parts.{HasProofs}
use Rattle.cert_conditions.specs.Kinds.{kind_of}
use Rattle.cert_conditions.specs.declared.kinds.Kind as code
use Rattle.cert_conditions.proofs.Trying.{fails_later, fails_before}
use Rattle.cert_checker.specs.Runs.{place_of, no_dual}
use Rattle.cert_checker.specs.Duals.{IsDualAt}
use Rattle.cert_checker.specs.Answers.{IsOfSize}
use Rattle.cert_checker.specs.Older.{cut_lines, CutFails}
use Rattle.cert_checker.proofs.RunPlaces.{runs_counted}
use Rattle.cert_checker.proofs.RunClaims.{duals_hold, dual_fails}
use Rattle.cert_checker.proofs.MarkedClaims.{dual_fails_at, sums_fail_at}

-- ---- one cut

-- a dual by its number, counted from 0
from_zero : (p : Problem) (cut : Cut) (s : ℕ) → IsDualAt p cut.part cut.duals s → IsDual p cut.part (commodity_at p.size (0 + s)) (get_or cut.duals s no_dual)
from_zero p cut s h =
    let at : s ≡ 0 + s = omega arith in
    subst (λ (m : ℕ). IsDual p cut.part (commodity_at p.size m) (get_or cut.duals s no_dual)) at h

to_zero : (p : Problem) (cut : Cut) (s : ℕ) → IsDual p cut.part (commodity_at p.size (0 + s)) (get_or cut.duals s no_dual) → IsDualAt p cut.part cut.duals s
to_zero p cut s h =
    let at : 0 + s ≡ s = omega arith in
    subst (λ (m : ℕ). IsDual p cut.part (commodity_at p.size m) (get_or cut.duals s no_dual)) at h

-- what fails first of the cut that stands at this line
pub cut_fails : (p : Problem) (v line : ℕ) (cut : Cut) (mark : Option Mark) (kind : code.Kind) (place : ℕ) → 1 ≤ p.size → length cut.duals ≡ p.size * p.size
    → HasProofs p.size mark → CutFails v p cut mark (kind, place) → FailsFirst (one_cut_claims p false v line (cut, mark)) (kind_of kind) (line + place)
cut_fails p v line cut None code.TheVariants.Dual place some long proved h =
    let runs = dual_runs v p.size cut.duals in
    let is : place ≡ 1 + place_of runs h.0 = h.2 in
    let at : line + 1 + place_of runs h.0 ≡ line + place = omega (arith, is) in
    fails_before (dual_claims p cut.part (line + 1) 0 runs) (claim Sum (last_dual_line v p.size cut line) (IsWithinSums p cut) ∷ []) Dual (line + place)
    (subst (FailsFirst (dual_claims p cut.part (line + 1) 0 runs) Dual) at (dual_fails p v cut.part (line + 1) h.0 cut.duals h.1))
cut_fails p v line cut None code.TheVariants.Sum place some long proved h =
    let runs = dual_runs v p.size cut.duals in
    let last = p.size * p.size - 1 in
    let pos = mul-pos some some in
    let counted = runs_counted v p.size cut.duals last some (omega (arith, pos, long)) in
    let is : place ≡ 1 + place_of runs last = h.2 in
    let at : line + length runs ≡ line + place = omega (arith, is, counted) in
    fails_later (dual_claims p cut.part (line + 1) 0 runs) (claim Sum (last_dual_line v p.size cut line) (IsWithinSums p cut) ∷ []) Sum (line + place)
    (duals_hold p v cut.part (line + 1) cut.duals h.0) (inl (h.1, refl, at))
cut_fails p v line cut (Some mark) code.TheVariants.Dual place some long proved h =
    let is : place ≡ 1 + 2 * h.0 = h.2 in
    let at : line + 1 + 2 * h.0 ≡ line + place = omega (arith, is) in
    subst (FailsFirst (proved_claims p false cut mark.hubs (line + 1) 0 cut.duals mark.proofs) Dual) at
    (dual_fails_at p cut mark.hubs h.0 (line + 1) 0 cut.duals mark.proofs (proved ∙ sym long) (omega (arith, long)) h.1.within
    (λ s less. from_zero p cut s (h.1.before s less)) (λ dual. h.1.here (to_zero p cut h.0 dual)))
cut_fails p v line cut (Some mark) code.TheVariants.Sum place some long proved h =
    let is : place ≡ 1 + 2 * (p.size * p.size - 1) = h.2 in
    let at : line + 1 + 2 * (length cut.duals - 1) ≡ line + place = omega (arith, is, long) in
    let pos = mul-pos some some in
    subst (FailsFirst (proved_claims p false cut mark.hubs (line + 1) 0 cut.duals mark.proofs) Sum) at
    (sums_fail_at p cut mark.hubs (line + 1) 0 cut.duals mark.proofs (proved ∙ sym long) (omega (arith, long)) (omega (arith, long, pos))
    (λ s less. from_zero p cut s (h.0 s less)) h.1)
cut_fails p v line cut mark kind place some long proved h = absurd h

-- ---- cuts one after another

-- these first ones are cuts of the problem, and what fails first behind them, from this line on, fails first of all
pub record AreCutsBefore (p : Problem) (k : Stated) (x line : ℕ) : Type 0 where
  pub are : All (IsCut p) (take x k.proof.cuts)
  pub fails : (kind : Kind) (l : ℕ) → FailsFirst (cut_claims p false k.proof.version line (drop x (cuts_of k))) kind l
      → FailsFirst (all_cut_claims p false k) kind l

pub none_before : (p : Problem) (k : Stated) (line : ℕ) → line ≡ first_cut_line k.proof.size → All (IsCut p) [] → AreCutsBefore p k 0 line
none_before p k line first nil = record {
  are = nil;
  fails = λ kind l h.
      subst (λ (m : ℕ). FailsFirst (cut_claims p false k.proof.version m (cuts_of k)) kind l) first h;
}

lines_same : (v n : ℕ) (cut : Cut) (mark : Option Mark) → cut_lines v n cut mark ≡ lines_of_cut v n (cut, mark)
lines_same v n cut None = refl
lines_same v n cut (Some mark) = refl

-- the next cut, with its mark
pub record IsNext (k : Stated) (x : ℕ) (cut : Cut) (mark : Option Mark) : Type 0 where
  pub within : x < length k.proof.cuts
  pub one_for_each : length k.marks ≡ length k.proof.cuts
  pub cut_is : cut ≡ get_or k.proof.cuts x cut
  pub mark_is : mark ≡ get_or k.marks x mark

next_first : (k : Stated) (x : ℕ) (cut : Cut) (mark : Option Mark) → IsNext k x cut mark → drop x (cuts_of k) ≡ (cut, mark) ∷ drop (x + 1) (cuts_of k)
next_first k x cut mark next =
    let pair : get_or (cuts_of k) x (cut, mark) ≡ (get_or k.proof.cuts x cut, get_or k.marks x mark) =
    get_or-zip k.proof.cuts k.marks x (cut, mark) next.within (omega (arith, next.within, next.one_for_each)) in
    let both = ap₂ (λ (c : Cut) (m : Option Mark). (c, m)) next.cut_is next.mark_is ∙ sym pair in
    let less : x < length (cuts_of k) = omega (arith, next.within, next.one_for_each, length-zip k.proof.cuts k.marks) in
    drop_more (cuts_of k) x (cut, mark) less ∙ ap (λ (e : Cut × Option Mark). e ∷ drop (x + 1) (cuts_of k)) (sym both)

-- where it is a cut of the problem
pub one_more_before : (p : Problem) (k : Stated) (x line later : ℕ) (cut : Cut) (mark : Option Mark) → IsNext k x cut mark → IsCut p cut
    → later ≡ line + cut_lines k.proof.version p.size cut mark → AreCutsBefore p k x line → AreCutsBefore p k (x + 1) later
one_more_before p k x line later cut mark next is at before =
    let v = k.proof.version in
    let rest = drop (x + 1) (cuts_of k) in
    record {
      are = subst (All (IsCut p)) (ap (λ (c : Cut). take x k.proof.cuts ++ c ∷ []) next.cut_is ∙ sym (take_more k.proof.cuts x cut next.within))
          (All-push (IsCut p) (take x k.proof.cuts) cut before.are is);
      fails = λ kind l h.
          before.fails kind l
          (subst (λ (cs : List (Cut × Option Mark)). FailsFirst (cut_claims p false v line cs) kind l) (sym (next_first k x cut mark next))
          (fails_later (one_cut_claims p false v line (cut, mark)) (cut_claims p false v (line + lines_of_cut v p.size (cut, mark)) rest) kind l
          (cut_claimed p false v line cut mark is (λ yes. absurd (false≢true yes)))
          (subst (λ (m : ℕ). FailsFirst (cut_claims p false v m rest) kind l) (at ∙ ap (λ (n : ℕ). line + n) (lines_same v p.size cut mark)) h)));
    }

-- where it is not
pub next_fails : (p : Problem) (k : Stated) (x line place : ℕ) (cut : Cut) (mark : Option Mark) (kind : code.Kind) → IsStatedInRange k → IsOfSize p k.proof
    → IsNext k x cut mark → 1 ≤ p.size → length cut.duals ≡ p.size * p.size → HasProofs p.size mark → CutFails k.proof.version p cut mark (kind, place)
    → AreCutsBefore p k x line → FailsFirst (older_conditions p k) (kind_of kind) (line + place)
next_fails p k x line place cut mark kind range sized next some long proved h before =
    let v = k.proof.version in
    let rest = drop (x + 1) (cuts_of k) in
    ((older_by_lines p k range).fail (kind_of kind) (line + place)).0
    (inr (
      sized,
      before.fails (kind_of kind) (line + place)
          (subst (λ (cs : List (Cut × Option Mark)). FailsFirst (cut_claims p false v line cs) (kind_of kind) (line + place)) (sym (next_first k x cut mark next))
          (fails_before (one_cut_claims p false v line (cut, mark)) (cut_claims p false v (line + lines_of_cut v p.size (cut, mark)) rest) (kind_of kind) (line + place)
          (cut_fails p v line cut mark kind place some long proved h))),
    ))

-- where all are
pub all_before : (p : Problem) (k : Stated) (x line : ℕ) → IsOfSize p k.proof → length k.proof.cuts ≤ x → AreCutsBefore p k x line → HasCutsOf p k.proof
all_before p k x line sized past before = record {
  size = sized.0;
  candidates = sized.1;
  cuts = subst (All (IsCut p)) (take_all x k.proof.cuts past) before.are;
}

-- the size is another
pub size_fails : (p : Problem) (k : Stated) → IsStatedInRange k → (IsOfSize p k.proof → ⊥) → FailsFirst (older_conditions p k) (kind_of code.TheVariants.Size) 2
size_fails p k range other =
    ((older_by_lines p k range).fail (kind_of code.TheVariants.Size) 2).0 (inl (other, refl, refl))

-- a certificate with cuts of the problem has no condition that fails
pub none_fails : (p : Problem) (k : Stated) (kind : code.Kind) (line : ℕ) → IsStatedInRange k → FailsFirst (older_conditions p k) (kind_of kind) line
    → HasCutsOf p k.proof → ⊥
none_fails p k kind line range f has = failure_or_all (older_conditions p k) (kind_of kind) line ((has_cuts_by_lines p k range).1 has) f
