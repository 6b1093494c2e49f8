-- The least part that duals have in common.
use Rattle.std.proofs.Common.{◌≡◌, ℕ, ◌*◌, ◌%◌, ◌≤◌, List, [], ◌∷◌, map, All, ap, ◌∙◌, arith}
use Rattle.std.specs.Int.{◌∣◌}
use Rattle.std.proofs.lemmas.List.Elements.{All-nil, All-cons, All-head, All-tail, All-map, All-weaker}
use Rattle.std.proofs.lemmas.Nat.Gcd.{dvd_of_mod-eq-zero, mod-eq-zero_of_dvd}
use Rattle.core_cuts.specs.BasicRatios.{IsWholeAt}
use Rattle.core_cuts.specs.FoundCuts.{parts_of, IsCommonPart, IsLeastCommonPart}
use Rattle.core_cuts.specs.Readings.{FoundDual}
use Rattle.core_cuts.specs.declared.ratios.Ratio.{Ratio}
use Rattle.core_cuts.proofs.LeastReadings.{has_least}

-- what holds of all that a list is mapped to
pub mapped_all : {X Y : Type 0} (P : Y → Type 0) (f : X → Y) (xs : List X) → All P (map f xs) → All (λ x. P (f x)) xs
mapped_all P f [] all = All-nil (λ x. P (f x))
mapped_all P f (x ∷ xs) all =
    All-cons (λ y. P (f y)) x xs (All-head P (f x) (map f xs) all) (mapped_all P f xs (All-tail P (f x) (map f xs) all))

pub common_of : (founds : List FoundDual) (e : ℕ) → 1 ≤ e → All (λ f. f.part ∣ e) founds → IsCommonPart (parts_of founds) e
common_of founds e some all = record {
  some = some;
  divides = All-map (λ x. x ∣ e) (λ (f : FoundDual). f.part) founds all;
}

pub each_divides : (founds : List FoundDual) (e : ℕ) → IsCommonPart (parts_of founds) e → All (λ f. f.part ∣ e) founds
each_divides founds e common = mapped_all (λ x. x ∣ e) (λ (f : FoundDual). f.part) founds common.divides

-- ---- there is a least one: that of the ratios 1 / x

abbrev by_part : ℕ → Ratio
by_part x = record { right = 1; over = x }

once : (e x : ℕ) → e * 1 % x ≡ e % x
once e x = ap (λ n. n % x) (let is : e * 1 ≡ e = omega arith in is)

whole_of : (e x : ℕ) → x ∣ e → IsWholeAt e (by_part x)
whole_of e x divides = once e x ∙ mod-eq-zero_of_dvd x divides

divides_of : (e x : ℕ) → IsWholeAt e (by_part x) → x ∣ e
divides_of e x whole = dvd_of_mod-eq-zero x (let back : e % x ≡ e * 1 % x = ap (λ n. n % x) (omega arith) in back ∙ whole)

common_whole : (parts : List ℕ) (e : ℕ) → All (λ x. x ∣ e) parts → All (IsWholeAt e) (map by_part parts)
common_whole parts e all =
    All-map (IsWholeAt e) by_part parts (All-weaker (λ x. x ∣ e) (λ x. IsWholeAt e (by_part x)) (λ x d. whole_of e x d) parts all)

whole_common : (parts : List ℕ) (e : ℕ) → All (IsWholeAt e) (map by_part parts) → All (λ x. x ∣ e) parts
whole_common parts e all =
    All-weaker (λ x. IsWholeAt e (by_part x)) (λ x. x ∣ e) (λ x w. divides_of e x w) parts (mapped_all (IsWholeAt e) by_part parts all)

pub has_least_common : (parts : List ℕ) → All (λ x. 1 ≤ x) parts → (e : ℕ) × IsLeastCommonPart parts e
has_least_common parts some =
    let found = has_least (map by_part parts) (All-map (λ (r : Ratio). 1 ≤ r.over) by_part parts some) in (
      found.0,
      record {
        common = record { some = found.1.some; divides = whole_common parts found.0 found.1.whole };
        least = λ other common. found.1.least other common.some (common_whole parts other common.divides);
      },
    )
