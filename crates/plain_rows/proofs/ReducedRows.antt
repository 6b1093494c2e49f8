-- Rows that their greatest common divisor does not change, and what a pivot makes of them where it takes nothing from them.
use Rattle.std.proofs.Common.{◌≡◌, ◌≢◌, false, ℕ, suc, ◌*◌, ◌≤◌, List, [], ◌∷◌, length, ℤ, pos, negsuc, neg_ℤ, ◌<ℤ◌, unsigned_abs, refl, sym, ap, ap₂, subst, ◌∙◌, ⊎_elim, arith}
use Rattle.std.proofs.Math.Nat.{div-one, mul-one, eq_of_mul-eq-mul_left, pos_of_ne-zero}
use Rattle.std.proofs.Math.IntN.{zero-*ℤ}
use Rattle.std.proofs.lemmas.Int.{ints}
use Rattle.std.proofs.lemmas.Bool.{cases_eq}
use Rattle.frac_rows.specs.Divisors.{divisor_of, quotient, reduced}
use Rattle.frac_rows.specs.Rows.{eliminated, is_wide_row}
use Rattle.frac_rows.specs.Stored.{times}
use Rattle.frac_rows.proofs.Divided.{narrow_from_false}
use Rattle.frac_rows.proofs.Gcds.{divisor_of-times}
use Rattle.frac_rows.proofs.Quotients.{scale, scale_low, times-reduced, reduced-times}
use Rattle.frac_rows.proofs.Refined.{times_one}
use Rattle.plain_rows.specs.Flat.{IsReduced}

pub quotient-one : (z : ℤ) → quotient z 1 ≡ z
unfolding quotient
quotient-one (pos a) = ap pos (div-one a)
quotient-one (negsuc a) = ap (λ (n : ℕ). neg_ℤ (pos n)) (div-one (suc a))

-- a row with no common divisor but 1 stays where it is divided
pub reduced_same : (row : List ℤ) → divisor_of row ≤ 1 → reduced row ≡ row
reduced_same row one =
    let unit : scale row ≡ 1 = omega (arith, one) in
    sym (times_one (reduced row)) ∙ ap (λ g. times (pos g) (reduced row)) (sym unit) ∙ times-reduced row

pub undivided : (row : List ℤ) (g : ℕ) → g ≡ 1 → g ≡ divisor_of row → reduced row ≡ row
undivided row g one is = reduced_same row (omega (arith, one, is))

eliminated_none : (p : ℤ) (row : List ℤ) (base : List ℤ) → length row ≡ length base → eliminated p row (pos 0) base ≡ times p row
eliminated_none p [] base long = refl
eliminated_none p (x ∷ row) [] long = absurd (omega arith)
eliminated_none p (x ∷ row) (y ∷ base) long =
    ap₂ (λ z zs. z ∷ zs) (omega (arith, ints, zero-*ℤ y)) (eliminated_none p row base (omega arith))

-- a row that nothing is taken from stays
pub taken_none : (p : ℤ) (row : List ℤ) (base : List ℤ) → length row ≡ length base → pos 0 <ℤ p → divisor_of row ≤ 1
    → row ≡ reduced (eliminated p row (pos 0) base)
taken_none p row base long above one =
    let size : p ≡ pos (unsigned_abs p) = omega (arith, ints) in
    let some : 1 ≤ unsigned_abs p = omega (arith, ints) in
    sym (ap reduced (eliminated_none p row base long) ∙ ap (λ q. reduced (times q row)) size ∙ reduced-times (unsigned_abs p) row some
    ∙ reduced_same row one)

-- a row that is divided has no common divisor but 1 left
pub divisor_of-reduced : (row : List ℤ) → divisor_of (reduced row) ≤ 1
divisor_of-reduced row =
    let g = divisor_of row in
    let d = divisor_of (reduced row) in
    let whole : g ≡ scale row * d =
    ap divisor_of (sym (times-reduced row)) ∙ divisor_of-times (scale row) (reduced row) (scale_low row) in
    ⊎_elim
    (λ (none : g ≡ 0).
    let unit : scale row ≡ 1 = omega (arith, none) in
    let same : g ≡ 1 * d = whole ∙ ap (λ n. n * d) unit in
    omega (arith, same, none))
    (λ (some : g ≢ 0).
    let unit : scale row ≡ g = omega (arith, some) in
    let same : g * 1 ≡ g * d = mul-one g ∙ whole ∙ ap (λ n. n * d) unit in
    let one : 1 ≡ d = eq_of_mul-eq-mul_left g (pos_of_ne-zero some) 1 d same in
    omega (arith, one))
    (cases_eq g 0)

-- a row that was divided, and is not too wide, is one as they are kept
pub is_reduced : (row new : List ℤ) → new ≡ reduced row → false ≡ is_wide_row (reduced row) → IsReduced new
is_reduced row new is narrow = record {
  narrow = narrow_from_false new (ap is_wide_row is ∙ sym narrow);
  one = subst (λ r. divisor_of r ≤ 1) (sym is) (divisor_of-reduced row);
}
