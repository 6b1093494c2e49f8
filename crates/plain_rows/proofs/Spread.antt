-- What a whole row is, by what is kept of it.
use Rattle.std.proofs.Common.{◌≡◌, ◌≢◌, ℕ, zero, suc, ◌+◌, ◌*◌, ◌<◌, ◌≤◌, ◌⊎◌, inl, inr, List, [], ◌∷◌, map, length, drop, get_or, All, eqb, cond, ℤ, pos, refl, sym, ap, subst, ◌∙◌, ⊎_elim, arith}
use Rattle.std.specs.List.{range_with_len}
use Rattle.std.proofs.lemmas.Bool.{cond-true, cond-false, eq-eqb, ne_eqb, cases_eq}
use Rattle.std.proofs.lemmas.List.{length-append, get_or_append_left, get_or_push, get_or-take, get_or-drop, ext_get_or}
use Rattle.std.proofs.lemmas.List.Elements.{All-head, All-tail, All-get_or, All-from_get_or}
use Rattle.std.proofs.lemmas.List.FromFn.{length-map-range_with_len, get_or-map-range_with_len}
use Rattle.frac_rows.specs.Rows.{number}
use Rattle.frac_rows.specs.Stored.{piece}
use Rattle.plain_rows.specs.Flat.{spread_number, spread}

-- a number of a piece, where it stands in the whole list
pub number_of_piece : (w : ℕ) (flat : List ℤ) (i j : ℕ) → j < w → number (piece w flat i) j ≡ number flat (i * w + j)
number_of_piece w flat i j low = get_or-take w (drop (i * w) flat) j (pos 0) low ∙ get_or-drop (i * w) flat j (pos 0)

-- ---- a place of a column, or none

pub place_or_none : (os : List ℕ) (k n : ℕ) → ((a : ℕ) × (a < n) × (get_or os a 0 ≡ k)) ⊎ ((a : ℕ) → a < n → get_or os a 0 ≢ k)
place_or_none os k zero = inr (λ a l e. omega arith)
place_or_none os k (suc n) =
    ⊎_elim
    (λ found. inl (found.0, omega (arith, found.1), found.2))
    (λ none.
    ⊎_elim
    (λ (here : get_or os n 0 ≡ k). inl (n, omega arith, here))
    (λ (other : get_or os n 0 ≢ k).
    inr (λ a l e. ⊎_elim (λ (at : a ≡ n). other (ap (λ b. get_or os b 0) (sym at) ∙ e)) (λ (before : a ≢ n). none a (omega arith) e) (cases_eq a n)))
    (cases_eq (get_or os n 0) k))
    (place_or_none os k n)

-- ---- the number in a column

-- at the first place that has the column
pub number_at_place : (os : List ℕ) (row : List ℤ) (owner k c : ℕ) → length row ≡ length os + 2 → c < length os
    → ((a : ℕ) → a < c → get_or os a 0 ≢ k) → get_or os c 0 ≡ k → spread_number os row owner k ≡ number row c
number_at_place [] row owner k c long low before here = absurd (omega arith)
number_at_place (o ∷ os) [] owner k c long low before here = absurd (omega arith)
number_at_place (o ∷ os) (x ∷ row) owner k zero long low before here =
    cond-true (eqb k o) x (spread_number os row owner k) (eq-eqb k o (sym here))
number_at_place (o ∷ os) (x ∷ row) owner k (suc c) long low before here =
    cond-false (eqb k o) x (spread_number os row owner k) (ne_eqb k o (λ e. before 0 (omega arith) (sym e)))
    ∙ number_at_place os row owner k c (omega arith) (omega arith) (λ a l. before (suc a) (omega arith)) here

-- where no place has the column
skipped : (os : List ℕ) (row : List ℤ) (owner k : ℕ) (right own : ℤ) → length row ≡ length os + 2
    → ((a : ℕ) → a < length os → get_or os a 0 ≢ k) → number row (length os) ≡ right → number row (suc (length os)) ≡ own
    → spread_number os row owner k ≡ cond (eqb k owner) own (pos 0)
skipped [] [] owner k right own long none r e = absurd (omega arith)
skipped [] (x ∷ []) owner k right own long none r e = absurd (omega arith)
skipped [] (x ∷ y ∷ row) owner k right own long none r e = ap (λ z. cond (eqb k owner) z (pos 0)) e
skipped (o ∷ os) [] owner k right own long none r e = absurd (omega arith)
skipped (o ∷ os) (x ∷ row) owner k right own long none r e =
    cond-false (eqb k o) x (spread_number os row owner k) (ne_eqb k o (λ same. none 0 (omega arith) (sym same)))
    ∙ skipped os row owner k right own (omega arith) (λ a l. none (suc a) (omega arith)) r e

pub number_of_owner : (os : List ℕ) (row : List ℤ) (owner k : ℕ) → length row ≡ length os + 2
    → ((a : ℕ) → a < length os → get_or os a 0 ≢ k) → k ≡ owner → spread_number os row owner k ≡ number row (length os + 1)
number_of_owner os row owner k long none e =
    skipped os row owner k (number row (length os)) (number row (length os + 1)) long none refl (ap (number row) (omega arith))
    ∙ cond-true (eqb k owner) (number row (length os + 1)) (pos 0) (eq-eqb k owner e)

pub number_of_none : (os : List ℕ) (row : List ℤ) (owner k : ℕ) → length row ≡ length os + 2
    → ((a : ℕ) → a < length os → get_or os a 0 ≢ k) → k ≢ owner → spread_number os row owner k ≡ pos 0
number_of_none os row owner k long none n =
    skipped os row owner k (number row (length os)) (number row (length os + 1)) long none refl (ap (number row) (omega arith))
    ∙ cond-false (eqb k owner) (number row (length os + 1)) (pos 0) (ne_eqb k owner n)

-- where each column stands once
pub number_at : (os : List ℕ) (row : List ℤ) (owner c : ℕ) → length row ≡ length os + 2 → c < length os
    → ((a b : ℕ) → a < length os → b < length os → get_or os a 0 ≡ get_or os b 0 → a ≡ b)
    → spread_number os row owner (get_or os c 0) ≡ number row c
number_at os row owner c long low once =
    number_at_place os row owner (get_or os c 0) c long low (λ a l e. let same = once a c (omega arith) low e in omega (arith, same, l)) refl

-- ---- the row

pub length-spread : (os : List ℕ) (owner n : ℕ) (row : List ℤ) → length (spread os owner n row) ≡ n + 2
unfolding spread
length-spread os owner n row =
    length-append (map (spread_number os row owner) (range_with_len 0 (n + 1))) (number row (length os) ∷ [])
    ∙ omega (arith, length-map-range_with_len (spread_number os row owner) 0 (n + 1))

pub number-spread : (os : List ℕ) (owner n k : ℕ) (row : List ℤ) → k ≤ n → number (spread os owner n row) k ≡ spread_number os row owner k
unfolding spread
number-spread os owner n k row low =
    get_or_append_left (map (spread_number os row owner) (range_with_len 0 (n + 1))) (number row (length os) ∷ []) (pos 0) k
    (omega (arith, length-map-range_with_len (spread_number os row owner) 0 (n + 1)))
    ∙ get_or-map-range_with_len (spread_number os row owner) 0 (n + 1) k k (pos 0) (omega arith) (omega arith)

pub right-spread : (os : List ℕ) (owner n k : ℕ) (row : List ℤ) → k ≡ n + 1 → number (spread os owner n row) k ≡ number row (length os)
unfolding spread
right-spread os owner n k row e =
    get_or_push (map (spread_number os row owner) (range_with_len 0 (n + 1))) (number row (length os)) (pos 0) k
    (length-map-range_with_len (spread_number os row owner) 0 (n + 1) ∙ sym e)

-- two rows are one whose numbers are the same in all columns
pub same_row : (n : ℕ) (xs ys : List ℤ) → length xs ≡ n + 2 → length ys ≡ n + 2 → ((k : ℕ) → k ≤ n → number xs k ≡ number ys k)
    → number xs (n + 1) ≡ number ys (n + 1) → xs ≡ ys
same_row n xs ys long other each right =
    ext_get_or (pos 0) xs ys (long ∙ sym other)
    (λ k low.
    ⊎_elim
    (λ (e : k ≡ n + 1). subst (λ j. number xs j ≡ number ys j) (sym e) right)
    (λ (before : k ≢ n + 1). each k (omega (arith, low, long)))
    (cases_eq k (n + 1)))

-- ---- what holds of all numbers

module _ (P : ℤ → Type 0) where
  -- of those that are kept and of 0, holds of all of the whole row
  all_number : (os : List ℕ) (row : List ℤ) (owner k : ℕ) → P (pos 0) → All P row → P (spread_number os row owner k)
  all_number [] [] owner k none all = none
  all_number [] (x ∷ []) owner k none all = none
  all_number [] (x ∷ y ∷ row) owner k none all =
      ⊎_elim
      (λ (e : k ≡ owner).
      subst P (sym (cond-true (eqb k owner) y (pos 0) (eq-eqb k owner e))) (All-head P y row (All-tail P x (y ∷ row) all)))
      (λ (n : k ≢ owner). subst P (sym (cond-false (eqb k owner) y (pos 0) (ne_eqb k owner n))) none)
      (cases_eq k owner)
  all_number (o ∷ os) [] owner k none all = none
  all_number (o ∷ os) (x ∷ row) owner k none all =
      ⊎_elim
      (λ (e : k ≡ o). subst P (sym (cond-true (eqb k o) x (spread_number os row owner k) (eq-eqb k o e))) (All-head P x row all))
      (λ (n : k ≢ o).
      subst P (sym (cond-false (eqb k o) x (spread_number os row owner k) (ne_eqb k o n))) (all_number os row owner k none (All-tail P x row all)))
      (cases_eq k o)

  pub all_spread : (os : List ℕ) (owner n : ℕ) (row : List ℤ) → length row ≡ length os + 2 → P (pos 0) → All P row → All P (spread os owner n row)
  all_spread os owner n row long none all =
      All-from_get_or P (spread os owner n row) (pos 0)
      (λ k low.
      ⊎_elim
      (λ (e : k ≡ n + 1).
      subst P (sym (right-spread os owner n k row e)) (All-get_or P row (length os) (pos 0) (omega (arith, long)) all))
      (λ (before : k ≢ n + 1).
      subst P (sym (number-spread os owner n k row (omega (arith, low, length-spread os owner n row)))) (all_number os row owner k none all))
      (cases_eq k (n + 1)))

  -- of those of the whole row, holds of all that are kept, where each column up to v's stands once
  pub all_kept : (os : List ℕ) (owner n : ℕ) (row : List ℤ) → length row ≡ length os + 2
      → ((a : ℕ) → a < length os → get_or os a 0 < n) → owner ≤ n
      → ((a b : ℕ) → a < length os → b < length os → get_or os a 0 ≡ get_or os b 0 → a ≡ b)
      → ((a : ℕ) → a < length os → get_or os a 0 ≢ owner)
      → All P (spread os owner n row) → All P row
  all_kept os owner n row long low own_low once apart all =
      All-from_get_or P row (pos 0)
      (λ c less.
      ⊎_elim
      (λ (e : c ≡ length os).
      subst P (right-spread os owner n (n + 1) row refl ∙ ap (number row) (sym e)) (at (n + 1) (omega arith)))
      (λ (other : c ≢ length os).
      ⊎_elim
      (λ (e : c ≡ length os + 1).
      subst P (number-spread os owner n owner row own_low ∙ number_of_owner os row owner owner long apart refl ∙ ap (number row) (sym e))
      (at owner (omega (arith, own_low))))
      (λ (front : c ≢ length os + 1).
      let within : c < length os = omega (arith, less, long, other, front) in
      let column : get_or os c 0 < n = low c within in
      subst P (number-spread os owner n (get_or os c 0) row (omega (arith, column)) ∙ number_at os row owner c long within once)
      (at (get_or os c 0) (omega (arith, column))))
      (cases_eq c (length os + 1)))
      (cases_eq c (length os)))
    where
      at : (k : ℕ) → k < n + 2 → P (number (spread os owner n row) k)
      at k less = All-get_or P (spread os owner n row) k (pos 0) (omega (arith, less, length-spread os owner n row)) all
