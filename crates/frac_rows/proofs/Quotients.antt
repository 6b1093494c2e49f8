-- Numbers and rows divided by a divisor of theirs.
use Rattle.std.proofs.Common.{Option, Some, None, IfSome, ◌≡◌, ℕ, zero, suc, ◌*◌, ◌/◌, ◌≤◌, max, All, List, [], ◌∷◌, map, length, ℤ, pos, negsuc, ◌*ℤ◌, neg_ℤ, unsigned_abs, int_div, refl, sym, ap, ap₂, ◌∙◌, arith}
use Rattle.std.specs.Int.{◌∣◌}
use Rattle.std.proofs.Math.Nat.{mul-div_right, mul-div-mul_left, mul-div_cancel', div-le_self, div-zero, zero-div, eq-zero_of_zero-dvd}
use Rattle.std.proofs.lemmas.Int.{ints}
use Rattle.std.proofs.lemmas.List.{length-map}
use Rattle.std.proofs.lemmas.List.Elements.{All-head, All-tail}
use Rattle.frac_rows.specs.Divisors.{divisor_of, quotient, reduced}
use Rattle.frac_rows.specs.Stored.{times}
use Rattle.frac_rows.proofs.Integers.{*ℤ_assoc}
use Rattle.frac_rows.proofs.Gcds.{divisor_divides, divisor_of-times}

-- ---- numbers

div_of_neg : (n g : ℕ) → int_div (neg_ℤ (pos n)) (pos g) ≡ neg_ℤ (pos (n / g))
div_of_neg zero g = omega (arith, ints, zero-div g)
div_of_neg (suc n) g = refl

pub quotient_of_product : (g : ℕ) (x : ℤ) → 1 ≤ g → quotient (pos g *ℤ x) g ≡ x
unfolding quotient
quotient_of_product g (pos a) low = ap pos (mul-div_right a {m = g} low)
quotient_of_product g (negsuc a) low =
    div_of_neg (g * suc a) g ∙ ap (λ (n : ℕ). neg_ℤ (pos n)) (mul-div_right (suc a) {m = g} low)

pub quotient-times : (m : ℕ) (z : ℤ) (g : ℕ) → 1 ≤ m → quotient (pos m *ℤ z) (m * g) ≡ quotient z g
unfolding quotient
quotient-times m (pos a) g low = ap pos (mul-div-mul_left {m = m} a g low)
quotient-times m (negsuc a) g low =
    div_of_neg (m * suc a) (m * g) ∙ ap (λ (n : ℕ). neg_ℤ (pos n)) (mul-div-mul_left {m = m} (suc a) g low)

times_neg : (g n : ℕ) → pos g *ℤ neg_ℤ (pos n) ≡ neg_ℤ (pos (g * n))
times_neg g zero = omega (arith, ints)
times_neg g (suc n) = refl

pub product_of_quotient : (g : ℕ) (z : ℤ) → g ∣ unsigned_abs z → pos g *ℤ quotient z g ≡ z
unfolding quotient
product_of_quotient g (pos a) h = ap pos (mul-div_cancel' g h)
product_of_quotient g (negsuc a) h = times_neg g (suc a / g) ∙ ap (λ (n : ℕ). neg_ℤ (pos n)) (mul-div_cancel' g h)

unsigned_abs_neg : (n : ℕ) → unsigned_abs (neg_ℤ (pos n)) ≡ n
unsigned_abs_neg zero = refl
unsigned_abs_neg (suc n) = refl

pub quotient_le : (z : ℤ) (g : ℕ) → unsigned_abs (quotient z g) ≤ unsigned_abs z
unfolding quotient
quotient_le (pos a) g = div-le_self a g
quotient_le (negsuc a) g = omega (arith, unsigned_abs_neg (suc a / g), div-le_self (suc a) g)

pub none_by_zero : (z : ℤ) → quotient z 0 ≡ pos 0
unfolding quotient
none_by_zero (pos a) = ap pos (div-zero a)
none_by_zero (negsuc a) = ap (λ (n : ℕ). neg_ℤ (pos n)) (div-zero (suc a))

-- a number that gives another times a divisor is the quotient
pub quotient_found : (r : Option ℤ) (d n : ℕ) (z : ℤ) → 1 ≤ d → d ≡ n → IfSome r (λ q. pos d *ℤ q ≡ z) → IfSome r (λ q. q ≡ quotient z n)
quotient_found None d n z low e h = tt
quotient_found (Some q) d n z low e h = sym (quotient_of_product d q low) ∙ ap₂ quotient h e

-- ---- rows

-- what each number of the reduced row was divided by; 1 for a row of zeros
abbrev pub scale : List ℤ → ℕ
scale row = max 1 (divisor_of row)

pub scale_low : (row : List ℤ) → 1 ≤ scale row
scale_low row = omega arith

product_of_scale : (g : ℕ) (z : ℤ) → g ∣ unsigned_abs z → pos (max 1 g) *ℤ quotient z g ≡ z
product_of_scale zero z h =
    let none : unsigned_abs z ≡ 0 = eq-zero_of_zero-dvd h in
    let is : z ≡ pos 0 = omega (arith, ints, none) in
    rw (none_by_zero z) (sym is)
product_of_scale (suc g) z h =
    let same : max 1 (suc g) ≡ suc g = omega arith in
    rw same (product_of_quotient (suc g) z h)

map_same : (f : ℤ → ℤ) (xs : List ℤ) → All (λ x. f x ≡ x) xs → map f xs ≡ xs
map_same f [] h = refl
map_same f (x ∷ xs) h = ap₂ (λ y ys. y ∷ ys) (All-head (λ y. f y ≡ y) x xs h) (map_same f xs (All-tail (λ y. f y ≡ y) x xs h))

pub map-map : (f g : ℤ → ℤ) (xs : List ℤ) → map f (map g xs) ≡ map (λ x. f (g x)) xs
map-map f g [] = refl
map-map f g (x ∷ xs) = ap (λ ys. f (g x) ∷ ys) (map-map f g xs)

pub map_agree : (f g : ℤ → ℤ) (xs : List ℤ) → ((x : ℤ) → f x ≡ g x) → map f xs ≡ map g xs
map_agree f g [] same = refl
map_agree f g (x ∷ xs) same = ap₂ (λ y ys. y ∷ ys) (same x) (map_agree f g xs same)

pub divisor-reduced : (row : List ℤ) → times (pos (divisor_of row)) (reduced row) ≡ row
unfolding reduced
divisor-reduced row =
    map-map (λ x. pos (divisor_of row) *ℤ x) (λ x. quotient x (divisor_of row)) row
    ∙ map_same (λ x. pos (divisor_of row) *ℤ quotient x (divisor_of row)) row
    (λ k d low. product_of_quotient (divisor_of row) _ (divisor_divides row k d low))

pub times-reduced : (row : List ℤ) → times (pos (scale row)) (reduced row) ≡ row
unfolding reduced
times-reduced row =
    map-map (λ x. pos (scale row) *ℤ x) (λ x. quotient x (divisor_of row)) row
    ∙ map_same (λ x. pos (scale row) *ℤ quotient x (divisor_of row)) row
    (λ k d low. product_of_scale (divisor_of row) _ (divisor_divides row k d low))

pub reduced-times : (m : ℕ) (row : List ℤ) → 1 ≤ m → reduced (times (pos m) row) ≡ reduced row
unfolding reduced
reduced-times m row low =
    map-map (λ x. quotient x (divisor_of (times (pos m) row))) (λ x. pos m *ℤ x) row
    ∙ map_agree (λ x. quotient (pos m *ℤ x) (divisor_of (times (pos m) row))) (λ x. quotient x (divisor_of row)) row
    (λ x. rw (divisor_of-times m row low) (quotient-times m x (divisor_of row) low))

pub length-reduced : (row : List ℤ) → length (reduced row) ≡ length row
unfolding reduced
length-reduced row = length-map row (λ x. quotient x (divisor_of row))
