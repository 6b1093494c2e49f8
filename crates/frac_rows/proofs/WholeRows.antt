-- Whole rows and their numbers: of the variables, and of those that are kept.
use Rattle.std.proofs.Common.{◌≡◌, ℕ, ◌+◌, ◌-◌, ◌*◌, ◌<◌, ◌≤◌, ◌^◌, ◌||◌, true, false, List, [], map, length, get_or, take, drop, sum, ℤ, pos, unsigned_abs, FitsSigned, Some, None, nat_lt, sym, ap, subst, ◌∙◌, arith, le_refl, le_trans}
use Rattle.std.specs.Int.{w64, w128, int_wrap, is_negative}
use Rattle.std.specs.List.{position_or_len}
use Rattle.std.proofs.Math.Nat.{mul-le-mul_left}
use Rattle.std.proofs.lemmas.Nat.{row_fits}
use Rattle.std.proofs.lemmas.Int.{int_wrap_fits, fits_signed_from_abs}
use Rattle.std.proofs.lemmas.Bool.{lt-ltb, le-ltb, cond-true, cond-false}
use Rattle.std.proofs.lemmas.List.{length-map, length-take, length-drop, get_or-map, get_or_append_left, get_or-append_right, get_or-take, get_or-drop}
use Rattle.std.proofs.lemmas.List.Elements.{All-from_get_or, All-append}
use Rattle.std.proofs.lemmas.List.Sums.{position_or_len_is}
use Rattle.std.proofs.lemmas.List.Folds.{list_any-append}
use Rattle.std.proofs.lemmas.List.FromFn.{length-map-range_with_len, get_or-map-range_with_len}
use Rattle.frac_rows.specs.Rows.{widest, number, first_negative, is_wide_row, AreNarrow}
use Rattle.frac_rows.specs.Stored.{dot, reach, extended, piece, standing, columns_of, AreColumns}
use Rattle.frac_rows.proofs.Divided.{narrow_at, narrow_from_false, not_wide, wide_at}
use Rattle.frac_rows.proofs.SumsOfProducts.{dot_le_reach, reach_limit}
use Rattle.frac_rows.proofs.Linear.{length-extended}

-- ---- pieces

-- a piece that is among n of them is within the list
pub piece_within : (w n i : ℕ) (flat : List ℤ) → length flat ≡ n * w → i < n → i * w + w ≤ length flat
piece_within w n i flat long low = rw long (row_fits i w n w low (le_refl w))

pub length-piece : (w : ℕ) (flat : List ℤ) (i : ℕ) → i * w + w ≤ length flat → length (piece w flat i) ≡ w
length-piece w flat i within = simp (length-take, length-drop) (omega arith)

number_of_piece : (w : ℕ) (flat : List ℤ) (i j : ℕ) → j < w → number (piece w flat i) j ≡ number flat (i * w + j)
number_of_piece w flat i j low = get_or-take w (drop (i * w) flat) j (pos 0) low ∙ get_or-drop (i * w) flat j (pos 0)

-- ---- columns whose numbers stand row by row

pub standing_at : (rows : List ℤ) (variables height j k : ℕ) → k < height → number (standing rows variables height j) k ≡ number (piece variables rows k) j
standing_at rows variables height j k low = get_or-map-range_with_len (λ k. number (piece variables rows k) j) 0 height k k (pos 0) low (omega arith)

pub length-standing : (rows : List ℤ) (variables height j : ℕ) → length (standing rows variables height j) ≡ height
length-standing rows variables height j = length-map-range_with_len (λ k. number (piece variables rows k) j) 0 height

pub standing_number : (rows : List ℤ) (variables height j k : ℕ) → k < height → j < variables
    → number (standing rows variables height j) k ≡ number rows (k * variables + j)
standing_number rows variables height j k row column = standing_at rows variables height j k row ∙ number_of_piece variables rows k j column

pub length-columns_of : (h n : ℕ) (flat : List ℤ) → length (columns_of h n flat) ≡ n
unfolding columns_of
length-columns_of h n flat = length-map-range_with_len (standing flat n h) 0 n

pub get_or-columns_of : (h n : ℕ) (flat : List ℤ) (j : ℕ) → j < n → get_or (columns_of h n flat) j [] ≡ standing flat n h j
unfolding columns_of
get_or-columns_of h n flat j low = get_or-map-range_with_len (standing flat n h) 0 n j j [] low (omega arith)

-- ---- numbers of a whole row

pub number_of_variable : (columns : List (List ℤ)) (row : List ℤ) (c : ℕ) → c < length columns
    → number (extended columns row) c ≡ dot row (get_or columns c [])
unfolding extended
number_of_variable columns row c low =
    get_or_append_left (map (dot row) columns) row (pos 0) c (omega (arith, length-map columns (dot row))) ∙ get_or-map (dot row) columns c [] (pos 0) low

pub number_of_kept : (columns : List (List ℤ)) (row : List ℤ) (c : ℕ) → length columns ≤ c
    → number (extended columns row) c ≡ number row (c - length columns)
unfolding extended
number_of_kept columns row c low = get_or-append_right (map (dot row) columns) row (length columns) c (pos 0) (length-map columns (dot row)) low

pub number_of_column : (h n : ℕ) (flat row : List ℤ) (c : ℕ) → c < n → number (extended (columns_of h n flat) row) c ≡ dot row (standing flat n h c)
number_of_column h n flat row c low =
    number_of_variable (columns_of h n flat) row c (omega (arith, length-columns_of h n flat)) ∙ ap (dot row) (get_or-columns_of h n flat c low)

pub number_behind_columns : (h n : ℕ) (flat row : List ℤ) (c : ℕ) → n ≤ c → number (extended (columns_of h n flat) row) c ≡ number row (c - n)
number_behind_columns h n flat row c low =
    number_of_kept (columns_of h n flat) row c (omega (arith, length-columns_of h n flat)) ∙ ap (λ m. number row (c - m)) (length-columns_of h n flat)

pub length-whole : (h n : ℕ) (flat row : List ℤ) → length (extended (columns_of h n flat) row) ≡ n + length row
length-whole h n flat row = length-extended (columns_of h n flat) row ∙ ap (λ m. m + length row) (length-columns_of h n flat)

-- ---- what is within the limit fits

pub narrow_fits : (z : ℤ) → unsigned_abs z ≤ widest → FitsSigned w64 z
narrow_fits z h = fits_signed_from_abs w64 z (omega arith)

-- a number of a narrow row that was summed up in its bits is itself
pub wrapped_number : (h n : ℕ) (flat row : List ℤ) (c : ℕ) (z : ℤ) → c < n → AreNarrow (extended (columns_of h n flat) row)
    → z ≡ int_wrap w64 (dot row (standing flat n h c)) → z ≡ number (extended (columns_of h n flat) row) c
wrapped_number h n flat row c z low narrow is =
    let whole = number_of_column h n flat row c low in
    let sum = dot row (standing flat n h c) in
    let small : unsigned_abs sum ≤ widest = subst (λ x. unsigned_abs x ≤ widest) whole (narrow_at (extended (columns_of h n flat) row) c narrow) in
    is ∙ int_wrap_fits w64 sum (narrow_fits sum small) ∙ sym whole

-- ---- the first number below 0

pub first_negative_is : (row : List ℤ) (i : ℕ) → i + 2 < length row → ((k : ℕ) → k < i → is_negative (number row k) ≡ false)
    → is_negative (number row i) ≡ true → first_negative row ≡ Some i
unfolding first_negative
first_negative_is row i low before here =
    let front = take (length row - 2) row in
    let long : length front ≡ length row - 2 = simp length-take (omega arith) in
    let at : position_or_len is_negative front ≡ i =
    position_or_len_is is_negative front i (pos 0) (omega arith)
    (λ k l. let less : k < length row - 2 = omega arith in ap is_negative (get_or-take (length row - 2) row k (pos 0) less) ∙ before k l)
    (λ l. let less : i < length row - 2 = omega arith in ap is_negative (get_or-take (length row - 2) row i (pos 0) less) ∙ here) in
    rw at (cond-true (nat_lt i (length front)) (Some i) None (lt-ltb i (length front) (omega arith)))

pub first_negative_none : (row : List ℤ) → ((k : ℕ) → k + 2 < length row → is_negative (number row k) ≡ false) → first_negative row ≡ None
unfolding first_negative
first_negative_none row none =
    let front = take (length row - 2) row in
    let long : length front ≡ length row - 2 = simp length-take (omega arith) in
    let at : position_or_len is_negative front ≡ length front =
    position_or_len_is is_negative front (length front) (pos 0) (omega arith)
    (λ k l.
    let less : k < length row - 2 = omega arith in
    ap is_negative (get_or-take (length row - 2) row k (pos 0) less) ∙ none k (omega arith))
    (λ l. absurd (omega arith)) in
    rw at (cond-false (nat_lt (length front) (length front)) (Some (length front)) None (le-ltb (length front) (length front) (omega arith)))

-- ---- whether the numbers of the variables are narrow

variable_size : (height variables j : ℕ) (numbers : List ℤ) (tops : List ℕ) (row : List ℤ) → AreColumns height variables numbers tops → j < variables
    → unsigned_abs (dot row (standing numbers variables height j)) ≤ reach row tops
variable_size height variables j numbers tops row are low =
    dot_le_reach row (standing numbers variables height j) tops (length-standing numbers variables height j ∙ sym are.topped.one_top_each)
    (are.topped.under j low)

-- a sum of products in twice the bits is itself
pub whole_sum : (height variables j : ℕ) (numbers : List ℤ) (tops : List ℕ) (row : List ℤ) → AreColumns height variables numbers tops → j < variables
    → AreNarrow row → int_wrap w128 (dot row (standing numbers variables height j)) ≡ dot row (standing numbers variables height j)
whole_sum height variables j numbers tops row are low narrow =
    let sum_of = dot row (standing numbers variables height j) in
    let size = variable_size height variables j numbers tops row are low in
    let most = reach_limit row tops narrow in
    let product : widest * sum tops ≤ widest * 2 ^ 64 = mul-le-mul_left widest are.topped.room in
    int_wrap_fits w128 sum_of (fits_signed_from_abs w128 sum_of (omega arith))

pub variables_narrow : (h n : ℕ) (flat row : List ℤ) → ((k : ℕ) → k < n → unsigned_abs (dot row (standing flat n h k)) ≤ widest)
    → is_wide_row (map (dot row) (columns_of h n flat)) ≡ false
variables_narrow h n flat row each =
    not_wide (map (dot row) (columns_of h n flat))
    (All-from_get_or (λ x. unsigned_abs x ≤ widest) (map (dot row) (columns_of h n flat)) (pos 0)
    (λ k low.
    let less : k < n = omega (arith, length-map (columns_of h n flat) (dot row), length-columns_of h n flat) in
    let at = get_or-map (dot row) (columns_of h n flat) k [] (pos 0) (omega (arith, length-columns_of h n flat)) ∙ ap (dot row) (get_or-columns_of h n flat k less) in
    subst (λ x. unsigned_abs x ≤ widest) (sym at) (each k less)))

pub variables_wide : (h n : ℕ) (flat row : List ℤ) (k : ℕ) → k < n → widest < unsigned_abs (dot row (standing flat n h k))
    → is_wide_row (map (dot row) (columns_of h n flat)) ≡ true
variables_wide h n flat row k low wide =
    let at = get_or-map (dot row) (columns_of h n flat) k [] (pos 0) (omega (arith, length-columns_of h n flat)) ∙ ap (dot row) (get_or-columns_of h n flat k low) in
    wide_at (map (dot row) (columns_of h n flat)) k (omega (arith, length-map (columns_of h n flat) (dot row), length-columns_of h n flat))
    (subst (λ x. widest < unsigned_abs x) (sym at) wide)

pub variables_within_reach : (height variables : ℕ) (numbers : List ℤ) (tops : List ℕ) (row : List ℤ) → AreColumns height variables numbers tops
    → reach row tops ≤ widest → is_wide_row (map (dot row) (columns_of height variables numbers)) ≡ false
variables_within_reach height variables numbers tops row are most =
    variables_narrow height variables numbers row (λ k low. le_trans (variable_size height variables k numbers tops row are low) most)

-- ---- whether a whole row is narrow

pub narrow_kept : (columns : List (List ℤ)) (row : List ℤ) → AreNarrow (extended columns row) → AreNarrow row
narrow_kept columns row narrow =
    All-from_get_or (λ x. unsigned_abs x ≤ widest) row (pos 0)
    (λ i low.
    let at : number (extended columns row) (length columns + i) ≡ number row i =
    number_of_kept columns row (length columns + i) (omega arith) ∙ ap (number row) (omega arith) in
    subst (λ x. unsigned_abs x ≤ widest) at (narrow_at (extended columns row) (length columns + i) narrow))

pub narrow_whole : (columns : List (List ℤ)) (row : List ℤ) → AreNarrow row → is_wide_row (map (dot row) columns) ≡ false → AreNarrow (extended columns row)
unfolding extended
narrow_whole columns row narrow variables =
    All-append (λ x. unsigned_abs x ≤ widest) (map (dot row) columns) row (narrow_from_false (map (dot row) columns) variables) narrow

pub is_wide_row-extended : (columns : List (List ℤ)) (row : List ℤ)
    → is_wide_row (extended columns row) ≡ (is_wide_row (map (dot row) columns) || is_wide_row row)
unfolding extended
is_wide_row-extended columns row = list_any-append (λ x. nat_lt widest (unsigned_abs x)) (map (dot row) columns) row
