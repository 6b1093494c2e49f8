-- Greatest common divisors without division: factors of 2, and differences of odd numbers.
use Rattle.std.proofs.Common.{◌≡◌, ℕ, zero, suc, ◌+◌, ◌-◌, ◌*◌, ◌/◌, ◌%◌, ◌^◌, ◌<◌, min, max, ⊎_elim, pow-add, refl, sym, ap, ap₂, subst, ◌∙◌, arith}
use Rattle.std.specs.Int.{◌∣◌, bit_at}
use Rattle.std.proofs.Math.Nat.{dvd-mul_right, mul-div_cancel', pow-suc, div-one}
use Rattle.std.proofs.lemmas.Bool.{cases_lt}
use Rattle.std.proofs.lemmas.Nat.{pow_pos, shr-shr}
use Rattle.std.proofs.lemmas.Nat.Gcd.{dvd_trans, IsGcd-swap, IsGcd-from_sub}
use Rattle.frac_rows.specs.Divisors.{gcd}
use Rattle.frac_rows.proofs.Gcds.{IsGcd-gcd, gcd_is, gcd-zero, gcd-times}

pub gcd-swap : (a b : ℕ) → gcd a b ≡ gcd b a
gcd-swap a b = gcd_is a b (gcd b a) (IsGcd-swap b a (gcd b a) (IsGcd-gcd b a))

pub gcd_of_none : (b : ℕ) → gcd 0 b ≡ b
gcd_of_none b = gcd-swap 0 b ∙ gcd-zero b

-- ---- factors of 2

odd_factor_at : (d e x r : ℕ) → d * e ≡ x → x % 2 ≡ 1 → d % 2 ≡ r → d % 2 ≡ 1
odd_factor_at d e x zero is odd rest =
    let half : d ≡ 2 * (d / 2) = omega (arith, rest) in
    let twice : d * e ≡ 2 * (d / 2) * e = ap (λ n. n * e) half in
    absurd (omega (arith, is, odd, twice))
odd_factor_at d e x (suc r) is odd rest = omega (arith, rest)

-- a divisor of an odd number that divides twice a number divides the number
odd_divisor : (x y d : ℕ) → x % 2 ≡ 1 → d ∣ x → d ∣ (y * 2) → d ∣ y
odd_divisor x y d odd of_x of_twice =
    let d_odd : d % 2 ≡ 1 = odd_factor_at d (x / d) x (d % 2) (mul-div_cancel' d of_x) odd refl in
    let k = y * 2 / d in
    let is : d * k ≡ y * 2 = mul-div_cancel' d of_twice in
    let halves : d ≡ 2 * (d / 2) + 1 = omega (arith, d_odd) in
    let parts : d * k ≡ (2 * (d / 2) + 1) * k = ap (λ n. n * k) halves in
    let m = y - d / 2 * k in
    let even : k ≡ 2 * m = omega (arith, is, parts) in
    let product : d * k ≡ d * (2 * m) = ap (λ n. d * n) even in
    let whole : d * m ≡ y = omega (arith, is, product) in
    subst (λ (n : ℕ). d ∣ n) whole (dvd-mul_right d m)

gcd_of_twice : (x y : ℕ) → x % 2 ≡ 1 → gcd x (y * 2) ≡ gcd x y
gcd_of_twice x y odd =
    let part = IsGcd-gcd x y in
    gcd_is x (y * 2) (gcd x y)
    (part.0, dvd_trans (gcd x y) part.1 (dvd-mul_right y 2), λ d of_x of_twice. part.2 d of_x (odd_divisor x y d odd of_x of_twice))

-- factors of 2 add nothing to a divisor of an odd number
pub gcd_of_twos : (x y t : ℕ) → x % 2 ≡ 1 → gcd x (y * 2 ^ t) ≡ gcd x y
gcd_of_twos x y zero odd = ap (gcd x) (omega arith)
gcd_of_twos x y (suc t) odd =
    ap (gcd x) (omega (arith, ap (λ n. y * n) (pow-suc 2 t))) ∙ gcd_of_twice x (y * 2 ^ t) odd ∙ gcd_of_twos x y t odd

-- ---- a number whose lowest bits are 0

pub no_rest : (n t : ℕ) → ((i : ℕ) → i < t → bit_at n i ≡ 0) → n / 2 ^ t * 2 ^ t ≡ n
no_rest n zero none = omega (arith, div-one n)
no_rest n (suc t) none =
    let before : n / 2 ^ t * 2 ^ t ≡ n = no_rest n t (λ i low. none i (omega arith)) in
    let m = n / 2 ^ t in
    let even : m % 2 ≡ 0 = none t (omega arith) in
    let half : m ≡ m / 2 * 2 = omega (arith, even) in
    let at : n / 2 ^ suc t ≡ m / 2 = ap (λ k. n / 2 ^ k) (omega arith) ∙ sym (shr-shr n t 1) in
    let twice : m * 2 ^ t ≡ m / 2 * 2 * 2 ^ t = ap (λ k. k * 2 ^ t) half in
    ap₂ (λ p q. p * q) at (pow-suc 2 t) ∙ omega (arith, before, twice)

-- ---- one step, and the whole

-- the lesser of two numbers is taken from the greater
apart : (x o : ℕ) → gcd (min x o) (max x o - min x o) ≡ gcd x o
apart x o =
    ⊎_elim
    (λ less.
    let g = gcd x (o - x) in
    ap₂ gcd (omega (arith, less)) (omega (arith, less))
    ∙ sym (gcd_is x o g (IsGcd-swap o x g (IsGcd-from_sub o x g (omega (arith, less)) (IsGcd-swap x (o - x) g (IsGcd-gcd x (o - x)))))))
    (λ more.
    let g = gcd o (x - o) in
    ap₂ gcd (omega (arith, more)) (omega (arith, more))
    ∙ sym (gcd_is x o g (IsGcd-from_sub x o g more (IsGcd-swap o (x - o) g (IsGcd-gcd o (x - o))))))
    (cases_lt x o)

pub gcd_step : (x y o t : ℕ) → x % 2 ≡ 1 → o * 2 ^ t ≡ y → gcd (min x o) (max x o - min x o) ≡ gcd x y
gcd_step x y o t odd is = apart x o ∙ sym (gcd_of_twos x o t odd) ∙ ap (gcd x) is

-- common factors of 2 come out
pub gcd_without_twos : (a b p q s t : ℕ) → p % 2 ≡ 1 → q % 2 ≡ 1 → p * 2 ^ s ≡ a → q * 2 ^ t ≡ b → gcd p b * 2 ^ min s t ≡ gcd a b
gcd_without_twos a b p q s t p_odd q_odd is_a is_b =
    let bare : gcd p b ≡ gcd p q = ap (gcd p) (sym is_b) ∙ gcd_of_twos p q t p_odd in
    ⊎_elim
    (λ less.
    let m = 2 ^ s in
    let more : 2 ^ t ≡ m * 2 ^ (t - s) = ap (λ k. 2 ^ k) (omega (arith, less)) ∙ pow-add 2 s (t - s) in
    let left : a ≡ m * p = omega (arith, is_a) in
    let right : b ≡ m * (q * 2 ^ (t - s)) = omega (arith, is_b, ap (λ n. q * n) more) in
    let whole : gcd a b ≡ m * gcd p q =
    ap₂ gcd left right ∙ gcd-times m p (q * 2 ^ (t - s)) (pow_pos s) ∙ ap (λ n. m * n) (gcd_of_twos p q (t - s) p_odd) in
    let power : 2 ^ min s t ≡ m = ap (λ k. 2 ^ k) (omega (arith, less)) in
    ap₂ (λ x y. x * y) bare power ∙ omega (arith, whole))
    (λ less.
    let m = 2 ^ t in
    let more : 2 ^ s ≡ m * 2 ^ (s - t) = ap (λ k. 2 ^ k) (omega (arith, less)) ∙ pow-add 2 t (s - t) in
    let left : a ≡ m * (p * 2 ^ (s - t)) = omega (arith, is_a, ap (λ n. p * n) more) in
    let right : b ≡ m * q = omega (arith, is_b) in
    let whole : gcd a b ≡ m * gcd p q =
    ap₂ gcd left right ∙ gcd-times m (p * 2 ^ (s - t)) q (pow_pos t)
    ∙ ap (λ n. m * n) (gcd-swap (p * 2 ^ (s - t)) q ∙ gcd_of_twos q p (s - t) q_odd ∙ gcd-swap q p) in
    let power : 2 ^ min s t ≡ m = ap (λ k. 2 ^ k) (omega (arith, less)) in
    ap₂ (λ x y. x * y) bare power ∙ omega (arith, whole))
    (cases_lt s t)
