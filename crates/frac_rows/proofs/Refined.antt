-- A pivot on kept rows makes of the whole rows what the definition makes of them, by whatever the kept row was divided.
use Rattle.std.proofs.Common.{◌≡◌, ℕ, ◌*◌, ◌≤◌, Bool, true, false, not, ◌||◌, List, [], ◌∷◌, ◌++◌, map, length, ℤ, pos, negsuc, ◌*ℤ◌, unsigned_abs, refl, sym, ap, ap₂, subst, ◌∙◌, ⊎_elim, arith}
use Rattle.std.specs.Int.{◌∣◌}
use Rattle.std.proofs.Math.Nat.{mul-pos, dvd-mul_right, pos_of_ne-zero}
use Rattle.std.proofs.Math.IntN.{zero-*ℤ}
use Rattle.std.proofs.lemmas.Int.{ints, unsigned_abs-mul}
use Rattle.std.proofs.lemmas.Bool.{cases_eq, not-true, not-false, not_from_true, or_right}
use Rattle.std.proofs.lemmas.List.{map-append}
use Rattle.std.proofs.lemmas.List.Elements.{All-map}
use Rattle.frac_rows.specs.Divisors.{divisor_of, quotient, reduced}
use Rattle.frac_rows.specs.Rows.{number, eliminated, pivoted, is_wide_row, AreNarrow}
use Rattle.frac_rows.specs.Stored.{dot, times, extended}
use Rattle.frac_rows.specs.Steps.{IsDivision, Follows}
use Rattle.frac_rows.proofs.Gcds.{divisor_of-append}
use Rattle.frac_rows.proofs.Quotients.{scale, scale_low, quotient_of_product, none_by_zero, divisor-reduced, times-reduced, reduced-times}
use Rattle.frac_rows.proofs.Linear.{dot-times, eliminated-times, extended-times, extended-eliminated}
use Rattle.frac_rows.proofs.Divided.{narrow_from_false}
use Rattle.frac_rows.proofs.WholeRows.{narrow_whole, is_wide_row-extended}

-- rows and what their reduced ones become are reduced to the same
pub pivot_of_reduced : (base row : List ℤ) (c : ℕ)
    → reduced (eliminated (number base c) row (number row c) base) ≡ pivoted (reduced base) c (reduced row)
unfolding pivoted
pivot_of_reduced base row c =
    let g = scale row in
    let h = scale base in
    let row_is : row ≡ times (pos g) (reduced row) = sym (times-reduced row) in
    let base_is : base ≡ times (pos h) (reduced base) = sym (times-reduced base) in
    let whole : eliminated (number base c) row (number row c) base ≡ times (pos (g * h)) (eliminated (number (reduced base) c) (reduced row) (number (reduced row) c) (reduced base)) =
    ap₂ (λ b r. eliminated (number b c) r (number r c) b) base_is row_is ∙ eliminated-times (pos g) (pos h) c (reduced row) (reduced base) in
    ap reduced whole ∙ reduced-times (g * h) _ (mul-pos (scale_low row) (scale_low base))

-- the new row times some number is what was eliminated
pub refined_pivot : (columns : List (List ℤ)) (base row new : List ℤ) (c d : ℕ) → 1 ≤ d → length row ≡ length base
    → times (pos d) new ≡ eliminated (number (extended columns base) c) row (number (extended columns row) c) base
    → reduced (extended columns new) ≡ pivoted (reduced (extended columns base)) c (reduced (extended columns row))
refined_pivot columns base row new c d low long is =
    let p = number (extended columns base) c in
    let e = number (extended columns row) c in
    sym (reduced-times d (extended columns new) low)
    ∙ ap reduced (sym (extended-times columns (pos d) new) ∙ ap (extended columns) is ∙ sym (extended-eliminated columns p row e base long))
    ∙ pivot_of_reduced (extended columns base) (extended columns row) c

-- ---- the row that is divided by its greatest common divisor

dot_is : (row column : List ℤ) → dot row column ≡ pos (divisor_of row) *ℤ dot (reduced row) column
dot_is row column = ap (λ r. dot r column) (sym (divisor-reduced row)) ∙ dot-times (pos (divisor_of row)) (reduced row) column

dot_divides : (row column : List ℤ) → divisor_of row ∣ unsigned_abs (dot row column)
dot_divides row column =
    let size : unsigned_abs (dot row column) ≡ divisor_of row * unsigned_abs (dot (reduced row) column) =
    ap unsigned_abs (dot_is row column) ∙ unsigned_abs-mul (pos (divisor_of row)) (dot (reduced row) column) in
    subst (λ n. divisor_of row ∣ n) (sym size) (dvd-mul_right (divisor_of row) (unsigned_abs (dot (reduced row) column)))

pub divisor_of-extended : (columns : List (List ℤ)) (row : List ℤ) → divisor_of (extended columns row) ≡ divisor_of row
unfolding extended
divisor_of-extended columns row =
    divisor_of-append (map (dot row) columns) row
    (All-map (λ y. divisor_of row ∣ unsigned_abs y) (dot row) columns (λ k d low. dot_divides row _))

one_times : (z : ℤ) → pos 1 *ℤ z ≡ z
one_times (pos n) = omega (arith, ints)
one_times (negsuc n) = omega (arith, ints)

pub times_one : (xs : List ℤ) → times (pos 1) xs ≡ xs
times_one [] = refl
times_one (x ∷ xs) = ap₂ (λ z zs. z ∷ zs) (one_times x) (times_one xs)

quotient_of_dot : (row column : List ℤ) → quotient (dot row column) (divisor_of row) ≡ dot (reduced row) column
quotient_of_dot row column =
    ⊎_elim
    (λ e.
    let none : dot row column ≡ pos 0 = dot_is row column ∙ ap (λ d. pos d *ℤ dot (reduced row) column) e ∙ zero-*ℤ (dot (reduced row) column) in
    let unit : scale row ≡ 1 = omega (arith, e) in
    let same : dot row column ≡ dot (reduced row) column =
    ap (λ r. dot r column) (sym (times-reduced row)) ∙ dot-times (pos (scale row)) (reduced row) column
    ∙ ap (λ d. pos d *ℤ dot (reduced row) column) unit ∙ one_times (dot (reduced row) column) in
    ap (quotient (dot row column)) e ∙ none_by_zero (dot row column) ∙ sym none ∙ same)
    (λ n.
    ap (λ z. quotient z (divisor_of row)) (dot_is row column)
    ∙ quotient_of_product (divisor_of row) (dot (reduced row) column) (pos_of_ne-zero n))
    (cases_eq (divisor_of row) 0)

quotients_of_dots : (columns : List (List ℤ)) (row : List ℤ)
    → map (λ x. quotient x (divisor_of row)) (map (dot row) columns) ≡ map (dot (reduced row)) columns
quotients_of_dots [] row = refl
quotients_of_dots (column ∷ columns) row = ap₂ (λ z zs. z ∷ zs) (quotient_of_dot row column) (quotients_of_dots columns row)

reduced_whole : (columns : List (List ℤ)) (row : List ℤ)
    → map (λ x. quotient x (divisor_of row)) (map (dot row) columns ++ row) ≡ map (dot (reduced row)) columns ++ reduced row
unfolding reduced
reduced_whole columns row =
    map-append (λ x. quotient x (divisor_of row)) (map (dot row) columns) row
    ∙ ap (λ zs. zs ++ map (λ x. quotient x (divisor_of row)) row) (quotients_of_dots columns row)

by_divisor : (row : List ℤ) (d : ℕ) → divisor_of row ≡ d → reduced row ≡ map (λ x. quotient x d) row
unfolding reduced
by_divisor row d e = ap (λ g. map (λ x. quotient x g) row) e

-- the whole row reduced is what belongs to the kept row reduced
pub reduced-extended : (columns : List (List ℤ)) (row : List ℤ) → reduced (extended columns row) ≡ extended columns (reduced row)
unfolding extended
reduced-extended columns row =
    by_divisor (map (dot row) columns ++ row) (divisor_of row) (divisor_of-extended columns row) ∙ reduced_whole columns row

-- where the kept row is reduced, the whole row is what the definition makes of it
pub reduced_pivot : (columns : List (List ℤ)) (base row : List ℤ) (c : ℕ) → length row ≡ length base
    → reduced (extended columns (eliminated (number (extended columns base) c) row (number (extended columns row) c) base))
    ≡ pivoted (reduced (extended columns base)) c (reduced (extended columns row))
reduced_pivot columns base row c long =
    refined_pivot columns base row (eliminated (number (extended columns base) c) row (number (extended columns row) c) base) c 1 (omega arith) long
    (times_one (eliminated (number (extended columns base) c) row (number (extended columns row) c) base))

-- a row that is kept divided follows by the pivot, whatever it was divided by
pub follows_divided : (columns : List (List ℤ)) (base row new : List ℤ) (c : ℕ) (p e : ℤ) → length base ≡ length row
    → p ≡ number (extended columns base) c → e ≡ number (extended columns row) c
    → IsDivision (eliminated p row e base) new → AreNarrow (extended columns new) → Follows columns base c row new
follows_divided columns base row new c p e as_long own taken (d, low, divided) narrow = record {
  next =
      refined_pivot columns base row new c d low (sym as_long) (divided.whole ∙ ap₂ (λ p e. eliminated p row e base) own taken);
  narrow = narrow;
}

pub follows_reduced : (columns : List (List ℤ)) (base row new : List ℤ) (c : ℕ) (p e : ℤ) → length base ≡ length row
    → p ≡ number (extended columns base) c → e ≡ number (extended columns row) c
    → new ≡ reduced (eliminated p row e base) → AreNarrow (extended columns new) → Follows columns base c row new
follows_reduced columns base row new c p e as_long own taken is narrow =
    let z = eliminated p row e base in
    record {
      next =
          refined_pivot columns base row new c (scale z) (scale_low z) (sym as_long)
          (ap (times (pos (scale z))) is ∙ times-reduced z ∙ ap₂ (λ p e. eliminated p row e base) own taken);
      narrow = narrow;
    }

-- where the reduced row is too wide, the pivot is
pub wide_pivot : (columns : List (List ℤ)) (base row : List ℤ) (c : ℕ) (p e : ℤ) → length base ≡ length row
    → p ≡ number (extended columns base) c → e ≡ number (extended columns row) c
    → is_wide_row (reduced (extended columns (eliminated p row e base))) ≡ true
    → is_wide_row (pivoted (reduced (extended columns base)) c (reduced (extended columns row))) ≡ true
wide_pivot columns base row c p e as_long own taken wide =
    ap is_wide_row (sym (ap₂ (λ p e. reduced (extended columns (eliminated p row e base))) own taken ∙ reduced_pivot columns base row c (sym as_long))) ∙ wide

-- ---- what the two tests of the reduced row say together

wide_parts : (columns : List (List ℤ)) (z : List ℤ)
    → is_wide_row (reduced (extended columns z)) ≡ (is_wide_row (map (dot (reduced z)) columns) || is_wide_row (reduced z))
wide_parts columns z = ap is_wide_row (reduced-extended columns z) ∙ is_wide_row-extended columns (reduced z)

pub wide_by_kept : (columns : List (List ℤ)) (z : List ℤ) (within : Bool) → within ≡ not (is_wide_row (reduced z)) → within ≡ false
    → false ≡ not (is_wide_row (reduced (extended columns z)))
wide_by_kept columns z within is fails =
    let wide : is_wide_row (reduced z) ≡ true = not-false (is_wide_row (reduced z)) (sym is ∙ fails) in
    sym (not_from_true (is_wide_row (reduced (extended columns z)))
    (wide_parts columns z ∙ or_right (is_wide_row (map (dot (reduced z)) columns)) (is_wide_row (reduced z)) wide))

or_false : (b c : Bool) → c ≡ false → (b || c) ≡ b
or_false true c e = refl
or_false false c e = e

pub wide_by_variables : (columns : List (List ℤ)) (z new : List ℤ) (within wide : Bool) → within ≡ not (is_wide_row (reduced z)) → within ≡ true
    → new ≡ reduced z → wide ≡ is_wide_row (map (dot new) columns)
    → not wide ≡ not (is_wide_row (reduced (extended columns z)))
wide_by_variables columns z new within wide is holds same value =
    let narrow : is_wide_row (reduced z) ≡ false = not-true (is_wide_row (reduced z)) (sym is ∙ holds) in
    ap not (value ∙ ap (λ r. is_wide_row (map (dot r) columns)) same
    ∙ sym (wide_parts columns z ∙ or_false (is_wide_row (map (dot (reduced z)) columns)) (is_wide_row (reduced z)) narrow))

pub narrow_by_first : (z new : List ℤ) (within : Bool) → within ≡ not (is_wide_row (reduced z)) → within ≡ true → new ≡ reduced z → AreNarrow new
narrow_by_first z new within is holds same = narrow_from_false new (ap is_wide_row same ∙ not-true (is_wide_row (reduced z)) (sym is ∙ holds))

pub narrow_by_tests : (columns : List (List ℤ)) (z new : List ℤ) (within wide : Bool) → within ≡ not (is_wide_row (reduced z)) → within ≡ true
    → new ≡ reduced z → wide ≡ is_wide_row (map (dot new) columns) → not wide ≡ true
    → AreNarrow (extended columns new)
narrow_by_tests columns z new within wide is holds same value fails =
    narrow_whole columns new (narrow_by_first z new within is holds same)
    (sym value ∙ not-true wide fails)
