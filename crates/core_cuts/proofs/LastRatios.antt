-- The ratios of a run's last table.
use Rattle.std.proofs.Common.{◌≡◌, ℕ, ◌+◌, nat_eq, Option, None, Some, [], length, get_or, ℤ, pos, negsuc, ◌≤ℤ◌, unsigned_abs, refl, sym, ap, ◌∙◌, subst, arith}
use Rattle.std.specs.List.{position, range_with_len}
use Rattle.std.proofs.lemmas.Int.{ints}
use Rattle.std.proofs.lemmas.List.{get_or-map, length-map}
use Rattle.std.proofs.lemmas.List.Elements.{All-get_or}
use Rattle.std.proofs.lemmas.List.FromFn.{length-range_with_len, get_or-range_with_len}
use Rattle.frac_rows.specs.Rows.{Table, number, row_at, right_side}
use Rattle.frac_rows.specs.Theorems.{IsBasic, AreRightsLow}
use Rattle.frac_rows.proofs.LeavingRows.{once_basic}
use Rattle.frac_rows.proofs.Places.{found_is, not_found}
use Rattle.frac_rows.proofs.Solutions.{positive_size}
use Rattle.core_cuts.specs.BasicRatios.{IsRatio, AreRatios}
use Rattle.core_cuts.specs.Finding.{ratio_by, ratio_of, ratios_of}

-- a number that is not below 0 is its size
pub low_size : (z : ℤ) → pos 0 ≤ℤ z → z ≡ pos (unsigned_abs z)
low_size (pos n) low = refl
low_size (negsuc n) low = absurd (omega (arith, ints, low))

ratio_by_is : (t : Table) (j : ℕ) (o : Option ℕ) → length t.rows ≡ length t.basis + 1 → IsBasic t → AreRightsLow t → position (nat_eq j) t.basis ≡ o
    → IsRatio t j (ratio_by t j o)
ratio_by_is t j None rows basic rights at = record {
  some = omega arith;
  basic = λ i l is. absurd (not_found t.basis j i at l is);
  others = λ none. refl;
}
ratio_by_is t j (Some i) rows basic rights at =
    let found = found_is t.basis j i at in
    let size = positive_size (number (row_at t i) (get_or t.basis i 0)) (basic.own i found.0) in
    let over = ap (number (row_at t i)) (sym found.1) ∙ size.2 in
    let right = low_size (right_side (row_at t i)) (All-get_or (λ row. pos 0 ≤ℤ right_side row) t.rows i [] (omega (arith, found.0, rows)) rights) in
    record {
      some = (let is = ap unsigned_abs over in omega (arith, is, size.1));
      basic = λ k l is.
          (let same = once_basic t basic i k found.0 l (found.1 ∙ sym is) in
          subst (λ (m : ℕ). (number (row_at t m) j ≡ pos (unsigned_abs (number (row_at t i) j))) × (right_side (row_at t m) ≡ pos (unsigned_abs (right_side (row_at t i))))) same
          (over ∙ ap (λ z. pos (unsigned_abs z)) (sym over), right));
      others = λ none. absurd (none i found.0 found.1);
    }

ratio_is : (t : Table) (j : ℕ) → length t.rows ≡ length t.basis + 1 → IsBasic t → AreRightsLow t → IsRatio t j (ratio_of t j)
unfolding ratio_of
ratio_is t j rows basic rights = ratio_by_is t j (position (nat_eq j) t.basis) rows basic rights refl

pub are_ratios : (t : Table) (n : ℕ) → length t.rows ≡ length t.basis + 1 → IsBasic t → AreRightsLow t → AreRatios t n (ratios_of t n)
unfolding ratios_of
are_ratios t n rows basic rights = record {
  one_each = length-map (range_with_len 0 n) (ratio_of t) ∙ length-range_with_len 0 n;
  each = λ j d below.
      (let place : get_or (range_with_len 0 n) j 0 ≡ j = omega (arith, get_or-range_with_len 0 n j 0 below) in
      let at = get_or-map (ratio_of t) (range_with_len 0 n) j 0 d (omega (arith, below, length-range_with_len 0 n)) ∙ ap (ratio_of t) place in
      subst (IsRatio t j) (sym at) (ratio_is t j rows basic rights));
}
