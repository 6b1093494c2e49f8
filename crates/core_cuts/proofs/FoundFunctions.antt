-- What is found for a commodity is what the function gives.
use Rattle.std.proofs.Common.{◌≡◌, ℕ, ◌+◌, ◌<◌, ◌≤◌, Option, None, Some, IfSome, Result, Ok, Err, IfOk, List, length, All, inl, inr, refl, sym, ap, arith}
use Rattle.std.proofs.lemmas.Bool.Decides.{not_from_Decides}
use Rattle.std.proofs.lemmas.Option.{none-some, cond_some}
use Rattle.hub_spec.specs.Limits.{most_part}
use Rattle.hub_spec.specs.Problem.{Problem}
use Rattle.frac_rows.specs.declared.ended.Ended.{Ended}
use Rattle.frac_rows.specs.declared.ended.Ended.TheVariants.{Best, Turns, Wide}
use Rattle.core_cuts.specs.declared.ratios.Ratio.{Ratio}
use Rattle.core_cuts.specs.BasicRatios.{AreRatios, IsWholeAt, IsLeastPart, reading_at, IsLeastReading}
use Rattle.core_cuts.specs.Finding.{first_from, ratios_of, are_whole, is_fit, found_by_part, found_by_ratios, found_by_end, core_found}
use Rattle.core_cuts.specs.Readings.{Reading, core_run, IsReading, FoundDual, found_of, IsFound, IsNotFound}
use Rattle.core_cuts.specs.Theorems.{IsAsked, FoundIsFunction}
use Rattle.core_cuts.proofs.FoundTests.{cond_none, whole_decides, fit_decides}
use Rattle.core_cuts.proofs.FirstNumbers.{first_is, least_that, past_all}
use Rattle.core_cuts.proofs.LastRatios.{are_ratios}
use Rattle.core_cuts.proofs.LastTables.{rights_last, rows_last}
use Rattle.core_cuts.proofs.LeastReadings.{over_all, part_is, least_reading, has_least}
use Rattle.core_cuts.proofs.OneReading.{basic_last, found_one, found_not}

-- ---- the least part

least_of_first : (rs : List Ratio) (e : ℕ) → first_from (are_whole rs) 1 most_part ≡ Some e → IsLeastPart rs e
least_of_first rs e found =
    let first = first_is (are_whole rs) 1 most_part e found in
    record {
      some = first.from;
      whole = (whole_decides rs e).0 first.passes;
      least = λ f some all. least_that (are_whole rs) (λ k. All (IsWholeAt k) rs) 1 most_part e f (whole_decides rs f) first some all;
    }

above_most : (rs : List Ratio) (f : ℕ) → first_from (are_whole rs) 1 most_part ≡ None → 1 ≤ f → All (IsWholeAt f) rs → most_part < f
above_most rs f none some all =
    let past = past_all (are_whole rs) (λ k. All (IsWholeAt k) rs) 1 most_part f (whole_decides rs f) none some all in omega (arith, past)

-- ---- the reading of a best table

module _ (p : Problem) (hubs : List ℕ) (c : ℕ × ℕ) (asked : IsAsked p hubs c) (best : (core_run p hubs c).ended ≡ Best) where
  reading_is : (r : Reading) → IsLeastReading p (core_run p hubs c).table r → IsReading p hubs c r
  reading_is r is = record { best = best; whole = is.whole; least = is.least }

  module _ (rs : List Ratio) (are : AreRatios (core_run p hubs c).table (length p.candidates + 1) rs) where
    reading_by : (e : ℕ) → IsLeastPart rs e → IsReading p hubs c (reading_at e rs)
    reading_by e least = reading_is (reading_at e rs) (least_reading p (core_run p hubs c).table rs e asked.problem are least)

    some_by_part : (o : Option ℕ) (found : FoundDual) → first_from (are_whole rs) 1 most_part ≡ o → found_by_part p hubs c rs o ≡ Some found
        → IsFound p hubs c found
    some_by_part None found at given = absurd (none-some found given)
    some_by_part (Some e) found at given =
        let r = reading_at e rs in
        let parts = cond_some (is_fit p hubs c r) (found_of p hubs c r) found given in
        (r, reading_by e (least_of_first rs e at), (fit_decides p hubs c r).0 parts.0, sym parts.1)

    none_by_part : (o : Option ℕ) → first_from (are_whole rs) 1 most_part ≡ o → found_by_part p hubs c rs o ≡ None → IsNotFound p hubs c
    none_by_part None at given =
        let least = has_least rs (over_all (core_run p hubs c).table (length p.candidates + 1) rs are) in
        let e = least.0 in
        let high = above_most rs e at least.1.some least.1.whole in
        inr (reading_at e rs, reading_by e least.1, λ fit. absurd (omega (arith, fit.part, part_is rs e, high)))
    none_by_part (Some e) at given =
        let r = reading_at e rs in
        inr (r, reading_by e (least_of_first rs e at), not_from_Decides (is_fit p hubs c r) (fit_decides p hubs c r) (cond_none (is_fit p hubs c r) (found_of p hubs c r) given))

    some_by_ratios : (found : FoundDual) → found_by_ratios p hubs c rs ≡ Some found → IsFound p hubs c found
    unfolding found_by_ratios
    some_by_ratios found given = some_by_part (first_from (are_whole rs) 1 most_part) found refl given

    none_by_ratios : found_by_ratios p hubs c rs ≡ None → IsNotFound p hubs c
    unfolding found_by_ratios
    none_by_ratios given = none_by_part (first_from (are_whole rs) 1 most_part) refl given

last_ratios : (p : Problem) (hubs : List ℕ) (c : ℕ × ℕ) → IsAsked p hubs c
    → AreRatios (core_run p hubs c).table (length p.candidates + 1) (ratios_of (core_run p hubs c).table (length p.candidates + 1))
last_ratios p hubs c asked =
    are_ratios (core_run p hubs c).table (length p.candidates + 1) (rows_last p hubs c asked) (basic_last p hubs c asked) (rights_last p hubs c asked)

-- ---- how the run ends

some_by_end : (p : Problem) (hubs : List ℕ) (c : ℕ × ℕ) (o : Ended) (found : FoundDual) → IsAsked p hubs c → (core_run p hubs c).ended ≡ o
    → found_by_end p hubs c (core_run p hubs c).table o ≡ Some found → IsFound p hubs c found
some_by_end p hubs c Best found asked ended given =
    some_by_ratios p hubs c asked ended (ratios_of (core_run p hubs c).table (length p.candidates + 1)) (last_ratios p hubs c asked) found given
some_by_end p hubs c Turns found asked ended given = absurd (none-some found given)
some_by_end p hubs c Wide found asked ended given = absurd (none-some found given)

none_by_end : (p : Problem) (hubs : List ℕ) (c : ℕ × ℕ) (o : Ended) → IsAsked p hubs c → (core_run p hubs c).ended ≡ o
    → found_by_end p hubs c (core_run p hubs c).table o ≡ None → IsNotFound p hubs c
none_by_end p hubs c Best asked ended given =
    none_by_ratios p hubs c asked ended (ratios_of (core_run p hubs c).table (length p.candidates + 1)) (last_ratios p hubs c asked) given
none_by_end p hubs c Turns asked ended given = inl (inr ended)
none_by_end p hubs c Wide asked ended given = inl (inl ended)

found_given : (p : Problem) (hubs : List ℕ) (c : ℕ × ℕ) (found : FoundDual) → IsAsked p hubs c → core_found p hubs c ≡ Some found → IsFound p hubs c found
unfolding core_found
found_given p hubs c found asked given = some_by_end p hubs c (core_run p hubs c).ended found asked refl given

none_given : (p : Problem) (hubs : List ℕ) (c : ℕ × ℕ) → IsAsked p hubs c → core_found p hubs c ≡ None → IsNotFound p hubs c
unfolding core_found
none_given p hubs c asked given = none_by_end p hubs c (core_run p hubs c).ended asked refl given

-- ---- both directions

gives_found : (p : Problem) (hubs : List ℕ) (c : ℕ × ℕ) (found : FoundDual) (o : Option FoundDual) → IsAsked p hubs c → core_found p hubs c ≡ o
    → IsFound p hubs c found → o ≡ Some found
gives_found p hubs c found None asked given is = absurd (found_not p hubs c found asked is (none_given p hubs c asked given))
gives_found p hubs c found (Some other) asked given is = ap Some (found_one p hubs c other found asked (found_given p hubs c other asked given) is)

gives_none : (p : Problem) (hubs : List ℕ) (c : ℕ × ℕ) (o : Option FoundDual) → IsAsked p hubs c → core_found p hubs c ≡ o → IsNotFound p hubs c → o ≡ None
gives_none p hubs c None asked given not = refl
gives_none p hubs c (Some found) asked given not = absurd (found_not p hubs c found asked (found_given p hubs c found asked given) not)

pub found_function : FoundIsFunction
found_function p hubs c asked = (
  λ found. (gives_found p hubs c found (core_found p hubs c) asked refl, found_given p hubs c found asked),
  (gives_none p hubs c (core_found p hubs c) asked refl, none_given p hubs c asked),
)

-- a result for which the relations hold is what the function gives
pub is_found : (p : Problem) (hubs : List ℕ) (c : ℕ × ℕ) (o : Option FoundDual) → IsAsked p hubs c → IfSome o (IsFound p hubs c)
    → (o ≡ None → IsNotFound p hubs c) → o ≡ core_found p hubs c
is_found p hubs c None asked some none = sym ((found_function p hubs c asked).1.0 (none refl))
is_found p hubs c (Some found) asked some none = sym (((found_function p hubs c asked).0 found).0 some)

pub result_found : {E : Type 0} (p : Problem) (hubs : List ℕ) (c : ℕ × ℕ) (r : Result (Option FoundDual) E) → IsAsked p hubs c
    → IfOk r (λ found. IfSome found (λ d. IsFound p hubs c d)) → IfOk r (λ found. found ≡ None → IsNotFound p hubs c)
    → IfOk r (λ found. found ≡ core_found p hubs c)
result_found p hubs c (Ok o) asked some none = is_found p hubs c o asked some none
result_found p hubs c (Err e) asked some none = tt
