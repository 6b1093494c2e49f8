-- The choices of a pivot are the same by kept rows as by reduced ones.
use Rattle.std.proofs.Common.{◌≡◌, ℕ, zero, suc, ◌+◌, ◌-◌, ◌*◌, ◌<◌, ◌≤◌, Bool, true, false, not, ◌&&◌, ◌||◌, cond, nat_lt, List, [], ◌∷◌, length, get_or, take, ℤ, pos, ◌*ℤ◌, int_lt, unsigned_abs, Option, Some, None, refl, sym, ap, ap₂, subst, ◌∙◌, arith}
use Rattle.std.specs.Int.{is_negative, is_positive}
use Rattle.std.specs.List.{position, position_or_len}
use Rattle.std.proofs.Math.Nat.{mul-pos}
use Rattle.std.proofs.Math.IntN.{*ℤ-zero, *ℤ_comm}
use Rattle.std.proofs.lemmas.Bool.{cond-true, cond-false, and_left, and_right, and_from}
use Rattle.std.proofs.lemmas.List.{length-take}
use Rattle.frac_rows.specs.Divisors.{reduced}
use Rattle.frac_rows.specs.Rows.{widest, Table, number, right_side, row_at, first_negative, entering, leaves_before, sooner, leaving_of, leaving}
use Rattle.frac_rows.specs.Stored.{Matrix, piece, whole_row, table_of, AreKept}
use Rattle.frac_rows.specs.Steps.{IsCandidate}
use Rattle.frac_rows.proofs.Integers.{*ℤ_pairs, int_lt-times}
use Rattle.frac_rows.proofs.Quotients.{scale, scale_low, times-reduced, length-reduced}
use Rattle.frac_rows.proofs.Linear.{number-times, length-extended}
use Rattle.frac_rows.proofs.Divided.{narrow_at}
use Rattle.frac_rows.proofs.Pivots.{row_at-table_of, basis_of}

-- the ratio of right side to number of one row is less than that of another, where both numbers are above 0
abbrev pub is_less_ratio : ℕ → List ℤ → List ℤ → Bool
is_less_ratio c row other = int_lt (right_side row *ℤ number other c) (right_side other *ℤ number row c)

-- a number of a row is the scale times that of the reduced row
pub number_is : (row : List ℤ) (c : ℕ) → number row c ≡ pos (scale row) *ℤ number (reduced row) c
number_is row c = ap (λ r. number r c) (sym (times-reduced row)) ∙ number-times (pos (scale row)) (reduced row) c

pub right_side_is : (row : List ℤ) → right_side row ≡ pos (scale row) *ℤ right_side (reduced row)
right_side_is row = number_is row (length row - 1) ∙ ap (λ n. pos (scale row) *ℤ number (reduced row) (n - 1)) (sym (length-reduced row))

pub is_negative-reduced : (row : List ℤ) (c : ℕ) → is_negative (number (reduced row) c) ≡ is_negative (number row c)
is_negative-reduced row c =
    sym (ap is_negative (number_is row c) ∙ ap (int_lt (pos (scale row) *ℤ number (reduced row) c)) (sym (*ℤ-zero (pos (scale row))))
    ∙ int_lt-times (scale row) (number (reduced row) c) (pos 0) (scale_low row))

pub is_positive-reduced : (row : List ℤ) (c : ℕ) → is_positive (number (reduced row) c) ≡ is_positive (number row c)
is_positive-reduced row c =
    sym (ap is_positive (number_is row c) ∙ ap (λ z. int_lt z (pos (scale row) *ℤ number (reduced row) c)) (sym (*ℤ-zero (pos (scale row))))
    ∙ int_lt-times (scale row) (pos 0) (number (reduced row) c) (scale_low row))

pub is_less_ratio-reduced : (c : ℕ) (row other : List ℤ) → is_less_ratio c (reduced row) (reduced other) ≡ is_less_ratio c row other
is_less_ratio-reduced c row other =
    let g = scale row in
    let h = scale other in
    let first : right_side row *ℤ number other c ≡ pos (g * h) *ℤ (right_side (reduced row) *ℤ number (reduced other) c) =
    ap₂ ◌*ℤ◌ (right_side_is row) (number_is other c) ∙ *ℤ_pairs (pos g) (right_side (reduced row)) (pos h) (number (reduced other) c) in
    let second : right_side other *ℤ number row c ≡ pos (g * h) *ℤ (right_side (reduced other) *ℤ number (reduced row) c) =
    ap₂ ◌*ℤ◌ (right_side_is other) (number_is row c) ∙ *ℤ_pairs (pos h) (right_side (reduced other)) (pos g) (number (reduced row) c)
    ∙ ap (λ z. z *ℤ (right_side (reduced other) *ℤ number (reduced row) c)) (*ℤ_comm (pos h) (pos g)) in
    sym (ap₂ int_lt first second
    ∙ int_lt-times (g * h) (right_side (reduced row) *ℤ number (reduced other) c) (right_side (reduced other) *ℤ number (reduced row) c)
    (mul-pos (scale_low row) (scale_low other)))

-- ---- the first number below 0

prefix_agree : (xs ys : List ℤ) (n : ℕ) → length xs ≡ length ys → ((k : ℕ) → is_negative (number xs k) ≡ is_negative (number ys k))
    → position_or_len is_negative (take n xs) ≡ position_or_len is_negative (take n ys)
prefix_agree xs ys zero long same = refl
prefix_agree [] [] (suc n) long same = refl
prefix_agree [] (y ∷ ys) (suc n) long same = absurd (omega arith)
prefix_agree (x ∷ xs) [] (suc n) long same = absurd (omega arith)
prefix_agree (x ∷ xs) (y ∷ ys) (suc n) long same =
    ap₂ (λ b m. cond (not b) (1 + m) 0) (same 0) (prefix_agree xs ys n (omega arith) (λ k. same (suc k)))

first_negative_agree : (xs ys : List ℤ) → length xs ≡ length ys → ((k : ℕ) → is_negative (number xs k) ≡ is_negative (number ys k))
    → first_negative xs ≡ first_negative ys
unfolding first_negative
first_negative_agree xs ys long same =
    let n = length xs - 2 in
    let place = prefix_agree xs ys n long same in
    let front : length (take n xs) ≡ length (take n ys) = simp length-take (omega arith) in
    ap₂ (λ i m. cond (nat_lt i m) (Some i) None) place front ∙ ap (λ m. position is_negative (take m ys)) (omega arith)

pub first_negative-reduced : (row : List ℤ) → first_negative (reduced row) ≡ first_negative row
first_negative-reduced row = first_negative_agree (reduced row) row (length-reduced row) (is_negative-reduced row)

-- ---- which row leaves before another, by kept rows

pub leaves_before-table_of : (m : Matrix) (numbers : List ℤ) (basis : List ℕ) (c i j : ℕ) → i < m.height → j < m.height
    → leaves_before (table_of m numbers basis) c i j
    ≡ (is_less_ratio c (whole_row m numbers i) (whole_row m numbers j)
    || not (is_less_ratio c (whole_row m numbers j) (whole_row m numbers i)) && nat_lt (get_or basis i 0) (get_or basis j 0))
unfolding leaves_before
leaves_before-table_of m numbers basis c i j low other =
    let row = row_at-table_of m numbers basis i low in
    let second = row_at-table_of m numbers basis j other in
    let by : List ℤ → List ℤ → List ℕ → Bool =
    λ x y b. is_less_ratio c x y || not (is_less_ratio c y x) && nat_lt (get_or b i 0) (get_or b j 0) in
    ap₂ (λ x y. by x y (table_of m numbers basis).basis) row second
    ∙ ap (by (reduced (whole_row m numbers i)) (reduced (whole_row m numbers j))) (basis_of m numbers basis)
    ∙ ap₂ (λ s t. s || not t && nat_lt (get_or basis i 0) (get_or basis j 0))
    (is_less_ratio-reduced c (whole_row m numbers i) (whole_row m numbers j))
    (is_less_ratio-reduced c (whole_row m numbers j) (whole_row m numbers i))

pub is_positive-table_of : (m : Matrix) (numbers : List ℤ) (basis : List ℕ) (c i : ℕ) → i < m.height
    → is_positive (number (row_at (table_of m numbers basis) i) c) ≡ is_positive (number (whole_row m numbers i) c)
is_positive-table_of m numbers basis c i low =
    ap (λ row. is_positive (number row c)) (row_at-table_of m numbers basis i low) ∙ is_positive-reduced (whole_row m numbers i) c

pub objective-table_of : (m : Matrix) (numbers : List ℤ) (basis : List ℕ) → length basis + 1 ≡ m.height
    → entering (table_of m numbers basis) ≡ first_negative (whole_row m numbers (m.height - 1))
objective-table_of m numbers basis one_each =
    let t = table_of m numbers basis in
    let last : length t.basis ≡ m.height - 1 = ap length (basis_of m numbers basis) ∙ omega arith in
    ap first_negative (ap (row_at t) last ∙ row_at-table_of m numbers basis (m.height - 1) (omega arith))
    ∙ first_negative-reduced (whole_row m numbers (m.height - 1))

-- ---- the better of two candidates

pub leaves_is : (m : Matrix) (numbers : List ℤ) (basis : List ℕ) (c i j : ℕ) (right n other_right o : ℤ) (result : Bool)
    → IsCandidate m numbers c i right n → IsCandidate m numbers c j other_right o
    → result ≡ (int_lt (right *ℤ o) (other_right *ℤ n) || not (int_lt (other_right *ℤ n) (right *ℤ o)) && nat_lt (get_or basis i 0) (get_or basis j 0))
    → result ≡ leaves_before (table_of m numbers basis) c i j
leaves_is m numbers basis c i j right n other_right o result one other is =
    let e = one.right_is in
    let f = one.number_is in
    let g = other.right_is in
    let h = other.number_is in
    rw (e, f, g, h) at is
    ∙ sym (leaves_before-table_of m numbers basis c i j (omega (arith, one.constraint)) (omega (arith, other.constraint)))

pub positive_is : (m : Matrix) (numbers : List ℤ) (basis : List ℕ) (c i : ℕ) (right n : ℤ) (b : Bool) → IsCandidate m numbers c i right n
    → is_positive n ≡ b → is_positive (number (row_at (table_of m numbers basis) i) c) ≡ b
positive_is m numbers basis c i right n b one e =
    is_positive-table_of m numbers basis c i (omega (arith, one.constraint)) ∙ ap is_positive (sym one.number_is) ∙ e

pub sooner_passed : (t : Table) (c i : ℕ) (best : Option ℕ) → is_positive (number (row_at t i) c) ≡ false → best ≡ sooner t c i best
sooner_passed t c i None e = sym (cond-false (is_positive (number (row_at t i) c)) (Some i) None e)
sooner_passed t c i (Some j) e =
    sym (cond-false (is_positive (number (row_at t i) c) && leaves_before t c i j) (Some i) (Some j)
    (and_left (is_positive (number (row_at t i) c)) (leaves_before t c i j) e))

pub sooner_first : (t : Table) (c i : ℕ) → is_positive (number (row_at t i) c) ≡ true → Some i ≡ sooner t c i None
sooner_first t c i e = sym (cond-true (is_positive (number (row_at t i) c)) (Some i) None e)

pub sooner_taken : (t : Table) (c i j : ℕ) → is_positive (number (row_at t i) c) ≡ true → leaves_before t c i j ≡ true → Some i ≡ sooner t c i (Some j)
sooner_taken t c i j e before =
    sym (cond-true (is_positive (number (row_at t i) c) && leaves_before t c i j) (Some i) (Some j)
    (and_from (is_positive (number (row_at t i) c)) (leaves_before t c i j) e before))

pub sooner_kept : (t : Table) (c i j : ℕ) → leaves_before t c i j ≡ false → Some j ≡ sooner t c i (Some j)
sooner_kept t c i j after =
    sym (cond-false (is_positive (number (row_at t i) c) && leaves_before t c i j) (Some i) (Some j)
    (and_right (is_positive (number (row_at t i) c)) (leaves_before t c i j) after))

pub leaving_all : (m : Matrix) (numbers : List ℤ) (basis : List ℕ) (c n : ℕ) → n ≡ length basis
    → leaving_of (table_of m numbers basis) c n ≡ leaving (table_of m numbers basis) c
unfolding leaving
leaving_all m numbers basis c n e =
    let t = table_of m numbers basis in
    ap (leaving_of t c) (e ∙ ap length (sym (basis_of m numbers basis)))

-- the last number of a whole row is its right side
pub right_side_at : (m : Matrix) (numbers : List ℤ) (i c : ℕ) → length (piece (m.height + 1) numbers i) ≡ m.height + 1
    → c ≡ length m.columns + m.height → number (whole_row m numbers i) c ≡ right_side (whole_row m numbers i)
right_side_at m numbers i c long e =
    ap (number (whole_row m numbers i)) (omega (arith, e, long, length-extended m.columns (piece (m.height + 1) numbers i)))

-- what a product needs of a candidate
pub candidate_narrow : (m : Matrix) (numbers : List ℤ) (c row : ℕ) (right n : ℤ) → AreKept m numbers → IsCandidate m numbers c row right n
    → (unsigned_abs right ≤ widest) × (unsigned_abs n ≤ widest)
candidate_narrow m numbers c row right n kept one =
    let narrow = kept.narrow row (omega (arith, one.constraint)) in (
      subst (λ x. unsigned_abs x ≤ widest) (sym one.right_is) (narrow_at (whole_row m numbers row) (length (whole_row m numbers row) - 1) narrow),
      subst (λ x. unsigned_abs x ≤ widest) (sym one.number_is) (narrow_at (whole_row m numbers row) c narrow),
    )
