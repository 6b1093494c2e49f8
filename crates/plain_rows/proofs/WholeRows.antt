-- Whole rows before and after a pivot.
use Rattle.std.proofs.Common.{◌≡◌, ◌≢◌, ℕ, ◌+◌, ◌≤◌, true, false, Bool, List, [], ◌∷◌, length, set, get_or, map, cond, eqb, ℤ, pos, ◌-ℤ◌, ◌*ℤ◌, unsigned_abs, refl, sym, ap, ap₂, ◌∙◌, ⊎_elim, arith}
use Rattle.std.specs.Int.{◌∣◌}
use Rattle.std.proofs.Math.Nat.{zero-div}
use Rattle.std.proofs.lemmas.Bool.{cases_Bool}
use Rattle.std.proofs.lemmas.Nat.Gcd.{dvd-zero, dvd_antisymm}
use Rattle.frac_rows.specs.Divisors.{divisor_of, quotient, reduced}
use Rattle.frac_rows.specs.Rows.{widest, number, eliminated, pivoted, is_wide_row, AreNarrow}
use Rattle.frac_rows.proofs.Gcds.{divisor_divides, divides_divisor}
use Rattle.frac_rows.proofs.Quotients.{length-reduced}
use Rattle.frac_rows.proofs.Linear.{length-eliminated, number-eliminated}
use Rattle.frac_rows.proofs.Divided.{number-reduced, narrow_from_false, not_wide}
use Rattle.plain_rows.specs.Flat.{spread_number, spread, IsSpread, stays_of, follows_of}
use Rattle.plain_rows.proofs.Spread.{number_at, length-spread, number-spread, right-spread, same_row, all_spread, all_kept}
use Rattle.plain_rows.proofs.Swapped.{IsSwap, crossed, Z_long, stays_number, follows_number, follows_right, stays_right}

-- ---- divided

pub divisor_of-spread : (os : List ℕ) (owner n : ℕ) (row : List ℤ) → IsSpread os owner n → length row ≡ length os + 2
    → divisor_of (spread os owner n row) ≡ divisor_of row
divisor_of-spread os owner n row is long =
    let whole = spread os owner n row in
    let divides : ℕ → ℤ → Type 0 = λ d x. d ∣ unsigned_abs x in
    dvd_antisymm
    (divides_divisor (divisor_of whole) row
    (all_kept (divides (divisor_of whole)) os owner n row long is.low is.own_low is.once is.apart (divisor_divides whole)))
    (divides_divisor (divisor_of row) whole
    (all_spread (divides (divisor_of row)) os owner n row long (dvd-zero (divisor_of row)) (divisor_divides row)))

quotient_of_zero : (g : ℕ) → quotient (pos 0) g ≡ pos 0
unfolding quotient
quotient_of_zero g = ap pos (zero-div g)

spread_of_map : (f : ℤ → ℤ) (os : List ℕ) (row : List ℤ) (owner k : ℕ) → f (pos 0) ≡ pos 0
    → spread_number os (map f row) owner k ≡ f (spread_number os row owner k)
spread_of_map f [] [] owner k none = sym none
spread_of_map f [] (x ∷ []) owner k none = sym none
spread_of_map f [] (x ∷ y ∷ row) owner k none = choice (eqb k owner)
  where
    choice : (b : Bool) → cond b (f y) (pos 0) ≡ f (cond b y (pos 0))
    choice true = refl
    choice false = sym none
spread_of_map f (o ∷ os) [] owner k none = sym none
spread_of_map f (o ∷ os) (x ∷ row) owner k none =
    ap (cond (eqb k o) (f x)) (spread_of_map f os row owner k none) ∙ choice (eqb k o)
  where
    choice : (b : Bool) → cond b (f x) (f (spread_number os row owner k)) ≡ f (cond b x (spread_number os row owner k))
    choice true = refl
    choice false = refl

spread_of_reduced : (os : List ℕ) (row : List ℤ) (owner k : ℕ) → spread_number os (reduced row) owner k ≡ quotient (spread_number os row owner k) (divisor_of row)
unfolding reduced
spread_of_reduced os row owner k = spread_of_map (λ x. quotient x (divisor_of row)) os row owner k (quotient_of_zero (divisor_of row))

pub reduced-spread : (os : List ℕ) (owner n : ℕ) (row : List ℤ) → IsSpread os owner n → length row ≡ length os + 2
    → reduced (spread os owner n row) ≡ spread os owner n (reduced row)
reduced-spread os owner n row is long =
    let whole = spread os owner n row in
    let g : divisor_of whole ≡ divisor_of row = divisor_of-spread os owner n row is long in
    let size = length-spread os owner n row in
    same_row n (reduced whole) (spread os owner n (reduced row)) (length-reduced whole ∙ size) (length-spread os owner n (reduced row))
    (λ k low.
    number-reduced whole k (omega (arith, size, low)) ∙ ap₂ quotient (number-spread os owner n k row low) g
    ∙ sym (spread_of_reduced os row owner k) ∙ sym (number-spread os owner n k (reduced row) low))
    (number-reduced whole (n + 1) (omega (arith, size)) ∙ ap₂ quotient (right-spread os owner n (n + 1) row refl) g
    ∙ sym (number-reduced row (length os) (omega (arith, long))) ∙ sym (right-spread os owner n (n + 1) (reduced row) refl))

-- ---- narrow

pub narrow_spread : (os : List ℕ) (owner n : ℕ) (row : List ℤ) → length row ≡ length os + 2 → AreNarrow row → AreNarrow (spread os owner n row)
narrow_spread os owner n row long narrow = all_spread (λ x. unsigned_abs x ≤ widest) os owner n row long (omega arith) narrow

pub wide_spread : (os : List ℕ) (owner n : ℕ) (row : List ℤ) → IsSpread os owner n → length row ≡ length os + 2 → is_wide_row row ≡ true
    → is_wide_row (spread os owner n row) ≡ true
wide_spread os owner n row is long wide =
    ⊎_elim (λ (yes : is_wide_row (spread os owner n row) ≡ true). yes)
    (λ (no : is_wide_row (spread os owner n row) ≡ false).
    let narrow : is_wide_row row ≡ false =
    not_wide row
    (all_kept (λ x. unsigned_abs x ≤ widest) os owner n row long is.low is.own_low is.once is.apart
    (narrow_from_false (spread os owner n row) no)) in
    absurd (cc))
    (cases_Bool (is_wide_row (spread os owner n row)))

-- ---- by a pivot

module _ (os : List ℕ) (b c n : ℕ) (swap : IsSwap os b c) (of_base : IsSpread os b n) (base : List ℤ) (base_long : length base ≡ length os + 2) where
  abbrev column : ℕ
  column = get_or os c 0

  abbrev new : List ℕ
  new = set os c b

  column_low : column ≤ n
  column_low = let low = of_base.low c swap.low in omega (arith, low)

  number_of_base : number (spread os b n base) column ≡ number base c
  number_of_base = number-spread os b n column base column_low ∙ number_at os base b c base_long swap.low swap.once

  pub stays_whole : spread new column n (stays_of (length os) base c) ≡ spread os b n base
  stays_whole =
      same_row n (spread new column n (stays_of (length os) base c)) (spread os b n base)
      (length-spread new column n (stays_of (length os) base c)) (length-spread os b n base)
      (λ k low.
      number-spread new column n k (stays_of (length os) base c) low ∙ stays_number os b c swap base base_long k
      ∙ sym (number-spread os b n k base low))
      (right-spread new column n (n + 1) (stays_of (length os) base c) refl ∙ stays_right os b c swap base base_long
      ∙ sym (right-spread os b n (n + 1) base refl))

  module _ (owner : ℕ) (other : owner ≢ b) (of_row : IsSpread os owner n) (of_new : IsSpread new owner n) (row : List ℤ) (long : length row ≡ length os + 2) where
    abbrev SB : List ℤ
    SB = spread os b n base

    abbrev SR : List ℤ
    SR = spread os owner n row

    number_of_row : number SR column ≡ number row c
    number_of_row = number-spread os owner n column row column_low ∙ number_at os row owner c long swap.low swap.once

    same_length : length SR ≡ length SB
    same_length = length-spread os owner n row ∙ sym (length-spread os b n base)

    abbrev eliminated_whole : List ℤ
    eliminated_whole = eliminated (number SB column) SR (number SR column) SB

    in_column : (k : ℕ) (x y : ℤ) → number SR k ≡ x → number SB k ≡ y
        → number eliminated_whole k ≡ number base c *ℤ x -ℤ number row c *ℤ y
    in_column k x y first second =
        number-eliminated (number SB column) SR (number SR column) SB k same_length
        ∙ ap₂ ◌-ℤ◌ (ap₂ ◌*ℤ◌ number_of_base first) (ap₂ ◌*ℤ◌ number_of_row second)

    crossed_whole : spread new owner n (crossed (length os) base c row) ≡ eliminated_whole
    crossed_whole =
        let Z = crossed (length os) base c row in
        same_row n (spread new owner n Z) eliminated_whole (length-spread new owner n Z)
        (length-eliminated (number SB column) SR (number SR column) SB same_length ∙ length-spread os owner n row)
        (λ k low.
        number-spread new owner n k Z low ∙ follows_number os b c swap base base_long owner other of_row.apart row long k
        ∙ sym (in_column k (spread_number os row owner k) (spread_number os base b k) (number-spread os owner n k row low) (number-spread os b n k base low)))
        (right-spread new owner n (n + 1) Z refl ∙ follows_right os b c swap base base_long owner other of_row.apart row long
        ∙ sym (in_column (n + 1) (number row (length os)) (number base (length os)) (right-spread os owner n (n + 1) row refl)
        (right-spread os b n (n + 1) base refl)))

    pub follows_whole : spread new owner n (follows_of (length os) base c row) ≡ pivoted SB column SR
    unfolding pivoted
    follows_whole =
        sym (reduced-spread new owner n (crossed (length os) base c row) of_new
        (Z_long os b c swap base base_long owner other of_row.apart row long))
        ∙ ap reduced crossed_whole

    pub wide_whole : is_wide_row (follows_of (length os) base c row) ≡ true → is_wide_row (pivoted SB column SR) ≡ true
    wide_whole wide =
        ap is_wide_row (sym follows_whole)
        ∙ wide_spread new owner n (follows_of (length os) base c row) of_new
        (length-reduced (crossed (length os) base c row) ∙ Z_long os b c swap base base_long owner other of_row.apart row long) wide
