-- The cut of a hub set is what the function gives.
use Rattle.std.proofs.Common.{◌≡◌, ℕ, ◌<◌, ◌≤◌, Bool, true, false, cond, Option, None, Some, IfSome, Result, Ok, Err, IfOk, List, map, All, inl, inr, refl, sym, ap, ap₂, ◌∙◌, subst, arith}
use Rattle.std.specs.Int.{◌∣◌}
use Rattle.std.specs.List.{AllZip}
use Rattle.std.proofs.lemmas.Bool.Decides.{not_from_Decides}
use Rattle.std.proofs.lemmas.List.Elements.{All-map, All-weaker, All-contains}
use Rattle.std.proofs.lemmas.Option.{none-some, cond_some}
use Rattle.hub_spec.specs.Cuts.{Prices, Cut}
use Rattle.hub_spec.specs.Limits.{most_part}
use Rattle.hub_spec.specs.Problem.{Problem, commodities}
use Rattle.core_spec.specs.CoreCuts.{CoreProof, Mark, MayBeMarked}
use Rattle.cut_model.specs.MarkedCuts.{MarkedCut}
use Rattle.core_cuts.specs.Brought.{IsSoundFound}
use Rattle.core_cuts.specs.Finding.{first_from, may_be_marked, core_founds, is_common_part, is_fit_cut, marked_at, marked_by_part, marked_by, core_marked}
use Rattle.core_cuts.specs.FoundCuts.{IsCommonPart, IsLeastCommonPart, parts_of, proofs_of, brought, brought_cut, IsCutOf, IsFitCut, IsCored, IsPlain}
use Rattle.core_cuts.specs.Readings.{FoundDual, IsFound}
use Rattle.core_cuts.specs.Theorems.{IsAsked, IsAskedSet, CoredIsFunction}
use Rattle.core_cuts.proofs.CommonParts.{has_least_common}
use Rattle.core_cuts.proofs.FirstNumbers.{first_is, least_that, past_all}
use Rattle.core_cuts.proofs.CutTests.{may_decides, common_decides, cut_decides}
use Rattle.core_cuts.proofs.FoundLists.{founds_are, one_lacks, same_founds, found_in}
use Rattle.core_cuts.proofs.FoundTests.{cond_none}
use Rattle.core_cuts.proofs.FoundSounds.{all_asked, all_sound}
use Rattle.core_cuts.proofs.OneReading.{found_not}

-- ---- the least part in common

least_of_first : (parts : List ℕ) (e : ℕ) → first_from (is_common_part parts) 1 most_part ≡ Some e → IsLeastCommonPart parts e
least_of_first parts e found =
    let first = first_is (is_common_part parts) 1 most_part e found in
    record {
      common = record { some = first.from; divides = (common_decides parts e).0 first.passes };
      least = λ f common.
          least_that (is_common_part parts) (λ k. All (λ x. x ∣ k) parts) 1 most_part e f (common_decides parts f) first common.some common.divides;
    }

above_most : (parts : List ℕ) (f : ℕ) → first_from (is_common_part parts) 1 most_part ≡ None → IsCommonPart parts f → most_part < f
above_most parts f none common =
    let past = past_all (is_common_part parts) (λ k. All (λ x. x ∣ k) parts) 1 most_part f (common_decides parts f) none common.some common.divides in
    omega (arith, past)

-- ---- the cut

abbrev marked : Cut → Mark → MarkedCut
marked cut mark = record { cut = cut; mark = mark }

module _ (p : Problem) (hubs : List ℕ) (asked : IsAskedSet p hubs) where
  each_asked : MayBeMarked p → All (IsAsked p hubs) (commodities p.size)
  each_asked may = all_asked p hubs asked.problem may asked.set

  cut_of : (founds : List FoundDual) (e : ℕ) → AllZip (IsFound p hubs) (commodities p.size) founds → IsLeastCommonPart (parts_of founds) e
      → IsCutOf p hubs (brought_cut e founds) (record { hubs = hubs; proofs = proofs_of founds })
  cut_of founds e each least = record { founds = founds; each = each; part = least; duals = refl; of_hubs = refl; proofs = refl }

  some_by_part : (founds : List FoundDual) (o : Option ℕ) (x : MarkedCut) → MayBeMarked p → AllZip (IsFound p hubs) (commodities p.size) founds
      → first_from (is_common_part (parts_of founds)) 1 most_part ≡ o → marked_by_part p hubs founds o ≡ Some x → IsCored p hubs x
  some_by_part founds None x may each at given = absurd (none-some x given)
  some_by_part founds (Some e) x may each at given =
      let parts = cond_some (is_fit_cut p (brought_cut e founds)) (marked_at hubs founds e) x given in
      subst (IsCored p hubs) parts.1 (record {
        may = may;
        is_cut_of = cut_of founds e each (least_of_first (parts_of founds) e at);
        fit = (cut_decides p (brought_cut e founds)).0 parts.0;
      })

  none_by_part : (founds : List FoundDual) (o : Option ℕ) → MayBeMarked p → AllZip (IsFound p hubs) (commodities p.size) founds
      → first_from (is_common_part (parts_of founds)) 1 most_part ≡ o → marked_by_part p hubs founds o ≡ None → IsPlain p hubs
  none_by_part founds None may each at given =
      let sound = all_sound p hubs (commodities p.size) founds (each_asked may) each in
      let some = All-map (λ (n : ℕ). 1 ≤ n) (λ (f : FoundDual). f.part) founds
      (All-weaker (IsSoundFound p) (λ (f : FoundDual). 1 ≤ f.part) (λ f is. is.some_part) founds sound) in
      let least = has_least_common (parts_of founds) some in
      let e = least.0 in
      let high = above_most (parts_of founds) e at least.1.common in
      inr (inr (
        brought_cut e founds,
        record { hubs = hubs; proofs = proofs_of founds },
        cut_of founds e each least.1,
        λ fit. absurd (omega (arith, fit.part_most, high)),
      ))
  none_by_part founds (Some e) may each at given =
      let x = brought_cut e founds in
      inr (inr (
        x,
        record { hubs = hubs; proofs = proofs_of founds },
        cut_of founds e each (least_of_first (parts_of founds) e at),
        not_from_Decides (is_fit_cut p x) (cut_decides p x) (cond_none (is_fit_cut p x) (marked_at hubs founds e) given),
      ))

  some_by_founds : (o : Option (List FoundDual)) (x : MarkedCut) → MayBeMarked p → core_founds p hubs (commodities p.size) ≡ o
      → marked_by p hubs o ≡ Some x → IsCored p hubs x
  some_by_founds None x may at given = absurd (none-some x given)
  some_by_founds (Some founds) x may at given =
      some_by_part founds (first_from (is_common_part (parts_of founds)) 1 most_part) x may (founds_are p hubs (commodities p.size) founds (each_asked may) at) refl given

  none_by_founds : (o : Option (List FoundDual)) → MayBeMarked p → core_founds p hubs (commodities p.size) ≡ o → marked_by p hubs o ≡ None → IsPlain p hubs
  none_by_founds None may at given = inr (inl (one_lacks p hubs (commodities p.size) (each_asked may) at))
  none_by_founds (Some founds) may at given =
      none_by_part founds (first_from (is_common_part (parts_of founds)) 1 most_part) may (founds_are p hubs (commodities p.size) founds (each_asked may) at) refl given

  some_by_may : (b : Bool) (x : MarkedCut) → may_be_marked p ≡ b
      → cond b (marked_by p hubs (core_founds p hubs (commodities p.size))) None ≡ Some x → IsCored p hubs x
  some_by_may true x may given = some_by_founds (core_founds p hubs (commodities p.size)) x ((may_decides p).0 may) refl given
  some_by_may false x may given = absurd (none-some x given)

  none_by_may : (b : Bool) → may_be_marked p ≡ b → cond b (marked_by p hubs (core_founds p hubs (commodities p.size))) None ≡ None → IsPlain p hubs
  none_by_may true may given = none_by_founds (core_founds p hubs (commodities p.size)) ((may_decides p).0 may) refl given
  none_by_may false may given = inl (not_from_Decides (may_be_marked p) (may_decides p) may)

  cored_given : (x : MarkedCut) → core_marked p hubs ≡ Some x → IsCored p hubs x
  unfolding core_marked
  cored_given x given = some_by_may (may_be_marked p) x refl given

  plain_given : core_marked p hubs ≡ None → IsPlain p hubs
  unfolding core_marked
  plain_given given = none_by_may (may_be_marked p) refl given

  -- ---- there is no other cut, and not none besides it

  same_cut : (x y : Cut) (m n : Mark) → MayBeMarked p → IsCutOf p hubs x m → IsCutOf p hubs y n → marked x m ≡ marked y n
  same_cut x y m n may one other =
      let founds = same_founds p hubs (commodities p.size) one.founds other.founds (each_asked may) one.each other.each in
      let parts : x.part ≡ y.part =
      omega (
        arith,
        one.part.least y.part (subst (λ (fs : List FoundDual). IsCommonPart (parts_of fs) y.part) (sym founds) other.part.common),
        other.part.least x.part (subst (λ (fs : List FoundDual). IsCommonPart (parts_of fs) x.part) founds one.part.common),
      ) in
      let duals = one.duals ∙ ap₂ (λ (e : ℕ) (fs : List FoundDual). map (brought e) fs) parts founds ∙ sym other.duals in
      let proofs = one.proofs ∙ ap proofs_of founds ∙ sym other.proofs in
      let cut : ℕ → List Prices → Cut = λ part ds. record { part = part; duals = ds } in
      let mark : List ℕ → List CoreProof → Mark = λ hs ps. record { hubs = hs; proofs = ps } in
      ap₂ marked (ap₂ cut parts duals) (ap₂ mark (one.of_hubs ∙ sym other.of_hubs) proofs)

  same_cored : (x y : MarkedCut) → IsCored p hubs x → IsCored p hubs y → x ≡ y
  same_cored x y one other = same_cut x.cut y.cut x.mark y.mark one.may one.is_cut_of other.is_cut_of

  not_plain : (x : MarkedCut) → IsCored p hubs x → IsPlain p hubs → ⊥
  not_plain x cored plain = elim plain [
    | inl may_not ↦ may_not cored.may
    | inr (inl lack) ↦
        let here = All-contains (λ c. (f : FoundDual) × IsFound p hubs c f) (commodities p.size) lack.0
        (found_in p hubs (commodities p.size) cored.is_cut_of.founds cored.is_cut_of.each) lack.1 in
        found_not p hubs lack.0 here.0 (All-contains (IsAsked p hubs) (commodities p.size) lack.0 (each_asked cored.may) lack.1) here.1 lack.2
    | inr (inr unfit) ↦
        let same = same_cut x.cut unfit.0 x.mark unfit.1 cored.may cored.is_cut_of unfit.2 in
        unfit.3 (subst (λ (y : MarkedCut). IsFitCut p y.cut) same cored.fit)
  ]

  gives_cored : (x : MarkedCut) (o : Option MarkedCut) → core_marked p hubs ≡ o → IsCored p hubs x → o ≡ Some x
  gives_cored x None given cored = absurd (not_plain x cored (plain_given given))
  gives_cored x (Some y) given cored = ap Some (same_cored y x (cored_given y given) cored)

  gives_plain : (o : Option MarkedCut) → core_marked p hubs ≡ o → IsPlain p hubs → o ≡ None
  gives_plain None given plain = refl
  gives_plain (Some x) given plain = absurd (not_plain x (cored_given x given) plain)

pub cored_function : CoredIsFunction
cored_function p hubs asked = (
  λ x. (gives_cored p hubs asked x (core_marked p hubs) refl, cored_given p hubs asked x),
  (gives_plain p hubs asked (core_marked p hubs) refl, plain_given p hubs asked),
)

-- a result for which the relations hold is what the function gives
pub is_marked : (p : Problem) (hubs : List ℕ) (o : Option MarkedCut) → IsAskedSet p hubs → IfSome o (IsCored p hubs) → (o ≡ None → IsPlain p hubs)
    → o ≡ core_marked p hubs
is_marked p hubs None asked some none = sym ((cored_function p hubs asked).1.0 (none refl))
is_marked p hubs (Some x) asked some none = sym (((cored_function p hubs asked).0 x).0 some)

pub result_marked : {E : Type 0} (p : Problem) (hubs : List ℕ) (r : Result (Option MarkedCut) E) → IsAskedSet p hubs
    → IfOk r (λ found. IfSome found (λ x. IsCored p hubs x)) → IfOk r (λ found. found ≡ None → IsPlain p hubs) → IfOk r (λ found. found ≡ core_marked p hubs)
result_marked p hubs (Ok o) asked some none = is_marked p hubs o asked some none
result_marked p hubs (Err e) asked some none = tt
