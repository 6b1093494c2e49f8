-- A row that is written number by number: divided by a number, or reduced.
use Rattle.std.proofs.Common.{◌≡◌, ℕ, zero, suc, ◌+◌, ◌<◌, ◌≤◌, true, false, List, [], ◌∷◌, length, set, drop, max, nat_lt, ℤ, pos, ◌-ℤ◌, ◌*ℤ◌, unsigned_abs, sym, ap, ap₂, subst, ◌∙◌, arith}
use borrow.Author.Count.{below_more}
use Rattle.std.proofs.Math.Nat.{le_of_dvd}
use Rattle.std.proofs.lemmas.Nat.Gcd.{dvd-zero}
use Rattle.std.proofs.lemmas.Bool.{le-ltb, lt-ltb, ltb-false, or_parts}
use Rattle.std.proofs.lemmas.List.{length-map, get_or-set_same, get_or-set_other, ext_get_or, drop_more, drop_all, get_or-map}
use Rattle.std.proofs.lemmas.List.Elements.{All-nil, All-cons, All-from_get_or}
use Rattle.std.proofs.lemmas.List.Folds.{list_any_none, list_any_at}
use Rattle.frac_rows.specs.Divisors.{gcd, divisor_of, quotient, reduced}
use Rattle.frac_rows.specs.Rows.{widest, number, eliminated, is_wide_row, AreNarrow}
use Rattle.frac_rows.specs.Stored.{times}
use Rattle.frac_rows.specs.Steps.{IsDivided}
use Rattle.frac_rows.proofs.Gcds.{IsGcd-gcd, gcd-one, gcd_of_multiple}
use Rattle.frac_rows.proofs.Quotients.{length-reduced}
use Rattle.frac_rows.proofs.Linear.{number-times, length-eliminated, number-eliminated}

-- ---- narrow rows and wide ones

pub narrow_at : (row : List ℤ) (c : ℕ) → AreNarrow row → unsigned_abs (number row c) ≤ widest
narrow_at [] c h = omega arith
narrow_at (x ∷ row) zero h = h 0 (pos 0) (omega arith)
narrow_at (x ∷ row) (suc c) h = narrow_at row c (λ k d low. h (suc k) d (omega arith))

pub not_wide : (row : List ℤ) → AreNarrow row → is_wide_row row ≡ false
not_wide row h = list_any_none (λ x. nat_lt widest (unsigned_abs x)) row (λ k d low. le-ltb widest _ (h k d low))

pub wide_at : (row : List ℤ) (c : ℕ) → c < length row → widest < unsigned_abs (number row c) → is_wide_row row ≡ true
wide_at row c low h = list_any_at (λ x. nat_lt widest (unsigned_abs x)) row c (pos 0) low (lt-ltb widest _ h)

pub narrow_from_false : (row : List ℤ) → is_wide_row row ≡ false → AreNarrow row
narrow_from_false [] h = All-nil (λ x. unsigned_abs x ≤ widest)
narrow_from_false (x ∷ row) h =
    let parts = or_parts (nat_lt widest (unsigned_abs x)) (is_wide_row row) h in
    All-cons (λ x. unsigned_abs x ≤ widest) x row (ltb-false widest (unsigned_abs x) parts.0) (narrow_from_false row parts.1)

-- ---- divided by a number

-- the number at the place k is done
pub record DividesAt (d : ℕ) (p : ℤ) (row : List ℤ) (e : ℤ) (base new : List ℤ) (k : ℕ) : Type 0 where
  pub whole : pos d *ℤ number new k ≡ p *ℤ number row k -ℤ e *ℤ number base k
  pub narrow : unsigned_abs (number new k) ≤ widest

pub divides_more : (d : ℕ) (p : ℤ) (row : List ℤ) (e : ℤ) (base new : List ℤ) (i : ℕ) (q : ℤ) → i < length new
    → ((k : ℕ) → k < i → DividesAt d p row e base new k)
    → pos d *ℤ q ≡ p *ℤ number row i -ℤ e *ℤ number base i → unsigned_abs q ≤ widest
    → (k : ℕ) → k < i + 1 → DividesAt d p row e base (set new i q) k
divides_more d p row e base new i q low before whole narrow =
    let here : number (set new i q) i ≡ q = get_or-set_same new i q (pos 0) low in
    below_more (λ k. DividesAt d p row e base (set new i q) k) i
    (λ k l.
    let same : number (set new i q) k ≡ number new k = get_or-set_other new i k q (pos 0) (omega arith) in
    record { whole = rw same (before k l).whole; narrow = rw same (before k l).narrow })
    (record { whole = rw here whole; narrow = rw here narrow })

-- no size of the first numbers is above the most so far, nor above the greatest of that and the next number's size
pub sizes_more : (new : List ℤ) (i : ℕ) (q : ℤ) (most : ℕ) → i < length new → ((k : ℕ) → k < i → unsigned_abs (number new k) ≤ most)
    → (k : ℕ) → k < i + 1 → unsigned_abs (number (set new i q) k) ≤ max most (unsigned_abs q)
sizes_more new i q most low before =
    let here : number (set new i q) i ≡ q = get_or-set_same new i q (pos 0) low in
    below_more (λ k. unsigned_abs (number (set new i q) k) ≤ max most (unsigned_abs q)) i
    (λ k l.
    let same : number (set new i q) k ≡ number new k = get_or-set_other new i k q (pos 0) (omega arith) in
    rw same (omega (arith, before k l)))
    (rw here (omega arith))

pub divided_all : (d : ℕ) (p : ℤ) (row : List ℤ) (e : ℤ) (base new : List ℤ) → length base ≡ length row → length new ≡ length row
    → ((k : ℕ) → k < length row → DividesAt d p row e base new k)
    → IsDivided d (eliminated p row e base) new
divided_all d p row e base new as_long room each =
    let long : length (eliminated p row e base) ≡ length row = length-eliminated p row e base (sym as_long) in
    record {
      whole =
          ext_get_or (pos 0) (times (pos d) new) (eliminated p row e base) (length-map new (λ x. pos d *ℤ x) ∙ room ∙ sym long)
          (λ k low.
          number-times (pos d) new k ∙ (each k (omega (arith, low, length-map new (λ x. pos d *ℤ x)))).whole
          ∙ sym (number-eliminated p row e base k (sym as_long)));
      narrow = All-from_get_or (λ x. unsigned_abs x ≤ widest) new (pos 0) (λ k low. (each k (omega arith)).narrow);
    }

-- ---- the divisor, from the last number on

pub gcd_le : (a b m : ℕ) → a ≤ m → b ≤ m → gcd a b ≤ m
gcd_le zero b m p q = omega (arith, gcd_of_multiple zero b (dvd-zero b))
gcd_le (suc a) b m p q = let part : gcd (suc a) b ≤ suc a = le_of_dvd (omega arith) (IsGcd-gcd (suc a) b).0 in omega arith

pub divisor_of_rest : (xs : List ℤ) (k : ℕ) → k < length xs → divisor_of (drop k xs) ≡ gcd (unsigned_abs (number xs k)) (divisor_of (drop (k + 1) xs))
unfolding divisor_of
divisor_of_rest xs k low = ap divisor_of (drop_more xs k (pos 0) low)

pub divisor_of_none : (xs : List ℤ) → divisor_of (drop (length xs) xs) ≡ 0
unfolding divisor_of
divisor_of_none xs = ap divisor_of (drop_all (length xs) xs (omega arith))

pub divisor_of_start : (p : ℤ) (row : List ℤ) (e : ℤ) (base : List ℤ) → length base ≡ length row
    → 0 ≡ divisor_of (drop (length row) (eliminated p row e base))
divisor_of_start p row e base as_long =
    sym (ap (λ n. divisor_of (drop n (eliminated p row e base))) (sym (length-eliminated p row e base (sym as_long)))
    ∙ divisor_of_none (eliminated p row e base))

-- where it is 1 for the last numbers, it is 1 for all
pub divisor_of_front : (xs : List ℤ) (k divisor : ℕ) → divisor ≡ 1 → divisor ≡ divisor_of (drop k xs) → 1 ≡ divisor_of xs
unfolding divisor_of
divisor_of_front [] zero divisor e is = sym e ∙ is
divisor_of_front [] (suc k) divisor e is = sym e ∙ is
divisor_of_front (x ∷ xs) zero divisor e is = sym e ∙ is
divisor_of_front (x ∷ xs) (suc k) divisor e is =
    sym (gcd-one (unsigned_abs x)) ∙ ap (gcd (unsigned_abs x)) (divisor_of_front xs k divisor e is)

-- the step of the loop from the last number to the first
pub divisor_of_more : (p : ℤ) (row : List ℤ) (e : ℤ) (base : List ℤ) (k m divisor : ℕ) (z : ℤ) (more : ℕ) → length base ≡ length row
    → k < length row → k + 1 ≡ m → divisor ≡ divisor_of (drop m (eliminated p row e base))
    → z ≡ p *ℤ number row k -ℤ e *ℤ number base k → more ≡ gcd (unsigned_abs z) divisor
    → more ≡ divisor_of (drop k (eliminated p row e base))
divisor_of_more p row e base k m divisor z more as_long low next so_far value is =
    let long : k < length (eliminated p row e base) = omega (arith, length-eliminated p row e base (sym as_long)) in
    let number_is : z ≡ number (eliminated p row e base) k = value ∙ sym (number-eliminated p row e base k (sym as_long)) in
    is ∙ ap₂ (λ x g. gcd (unsigned_abs x) g) number_is (so_far ∙ ap (λ n. divisor_of (drop n (eliminated p row e base))) (sym next))
    ∙ sym (divisor_of_rest (eliminated p row e base) k long)

-- ---- reduced

pub number-reduced : (row : List ℤ) (k : ℕ) → k < length row → number (reduced row) k ≡ quotient (number row k) (divisor_of row)
unfolding reduced
number-reduced row k low = get_or-map (λ x. quotient x (divisor_of row)) row k (pos 0) (pos 0) low

-- the number at the place k is done
pub record ReducesAt (p : ℤ) (row : List ℤ) (e : ℤ) (base new : List ℤ) (k : ℕ) : Type 0 where
  pub value : number new k ≡ number (reduced (eliminated p row e base)) k
  pub narrow : unsigned_abs (number new k) ≤ widest

-- what the loop computes for the place k
pub reduced_at : (p : ℤ) (row : List ℤ) (e : ℤ) (base : List ℤ) (k divisor : ℕ) (z q : ℤ) → length base ≡ length row → k < length row
    → divisor ≡ divisor_of (eliminated p row e base) → z ≡ p *ℤ number row k -ℤ e *ℤ number base k → q ≡ quotient z divisor
    → q ≡ number (reduced (eliminated p row e base)) k
reduced_at p row e base k divisor z q as_long low whole value is =
    let long : k < length (eliminated p row e base) = omega (arith, length-eliminated p row e base (sym as_long)) in
    is ∙ ap₂ quotient (value ∙ sym (number-eliminated p row e base k (sym as_long))) whole ∙ sym (number-reduced (eliminated p row e base) k long)

pub reduces_more : (p : ℤ) (row : List ℤ) (e : ℤ) (base new : List ℤ) (i : ℕ) (q : ℤ) → i < length new
    → ((k : ℕ) → k < i → ReducesAt p row e base new k)
    → q ≡ number (reduced (eliminated p row e base)) i → unsigned_abs q ≤ widest
    → (k : ℕ) → k < i + 1 → ReducesAt p row e base (set new i q) k
reduces_more p row e base new i q low before value narrow =
    let here : number (set new i q) i ≡ q = get_or-set_same new i q (pos 0) low in
    below_more (λ k. ReducesAt p row e base (set new i q) k) i
    (λ k l.
    let same : number (set new i q) k ≡ number new k = get_or-set_other new i k q (pos 0) (omega arith) in
    record { value = rw same (before k l).value; narrow = rw same (before k l).narrow })
    (record { value = rw here value; narrow = rw here narrow })

length-reduced_row : (p : ℤ) (row : List ℤ) (e : ℤ) (base : List ℤ) → length base ≡ length row
    → length (reduced (eliminated p row e base)) ≡ length row
length-reduced_row p row e base as_long = length-reduced (eliminated p row e base) ∙ length-eliminated p row e base (sym as_long)

pub reduced_all : (p : ℤ) (row : List ℤ) (e : ℤ) (base new : List ℤ) → length base ≡ length row → length new ≡ length row
    → ((k : ℕ) → k < length row → ReducesAt p row e base new k)
    → new ≡ reduced (eliminated p row e base)
reduced_all p row e base new as_long room each =
    ext_get_or (pos 0) new (reduced (eliminated p row e base)) (room ∙ sym (length-reduced_row p row e base as_long))
    (λ k low. (each k (omega arith)).value)

pub reduced_narrow : (p : ℤ) (row : List ℤ) (e : ℤ) (base new : List ℤ) → length base ≡ length row
    → ((k : ℕ) → k < length row → ReducesAt p row e base new k)
    → false ≡ is_wide_row (reduced (eliminated p row e base))
reduced_narrow p row e base new as_long each =
    sym (not_wide (reduced (eliminated p row e base))
    (All-from_get_or (λ x. unsigned_abs x ≤ widest) (reduced (eliminated p row e base)) (pos 0)
    (λ k low.
    let at = each k (omega (arith, length-reduced_row p row e base as_long)) in
    subst (λ x. unsigned_abs x ≤ widest) at.value at.narrow)))

pub reduced_wide : (p : ℤ) (row : List ℤ) (e : ℤ) (base : List ℤ) (k : ℕ) (q : ℤ) → length base ≡ length row → k < length row
    → q ≡ number (reduced (eliminated p row e base)) k → widest < unsigned_abs q
    → true ≡ is_wide_row (reduced (eliminated p row e base))
reduced_wide p row e base k q as_long low value wide =
    sym (wide_at (reduced (eliminated p row e base)) k (omega (arith, length-reduced_row p row e base as_long))
    (subst (λ x. widest < unsigned_abs x) value wide))

pub divisor_of_step : (row : List ℤ) (k m divisor : ℕ) → k < length row → k + 1 ≡ m → divisor ≡ divisor_of (drop m row)
    → gcd (unsigned_abs (number row k)) divisor ≡ divisor_of (drop k row)
divisor_of_step row k m divisor low next so_far =
    ap (gcd (unsigned_abs (number row k))) (so_far ∙ ap (λ n. divisor_of (drop n row)) (sym next)) ∙ sym (divisor_of_rest row k low)
