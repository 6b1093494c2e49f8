-- The greatest common divisor, of two numbers and of a row.
use Rattle.std.proofs.Common.{Option, Some, None, IfSome, IsTrue, is_some, ◌≡◌, ℕ, zero, suc, ◌*◌, ◌/◌, ◌%◌, ◌<◌, ◌≤◌, length, get_or, All, List, [], ◌∷◌, ◌++◌, map, ℤ, pos, ◌*ℤ◌, unsigned_abs, refl, sym, ap, ap₂, subst, ◌∙◌, arith}
use Rattle.std.specs.Int.{IsGcd, ◌∣◌}
use Rattle.std.proofs.Math.Nat.{mul-dvd-mul_left, dvd_of_mul-dvd-mul_left, dvd-mul_right, eq-one_of_dvd-one, mod-lt, mul-div_cancel'}
use Rattle.std.proofs.lemmas.Nat.Gcd.{dvd_refl, dvd-zero, dvd_trans, dvd_antisymm, IsGcd-from_zero, IsGcd-from_mod, same_from_IsGcd}
use Rattle.std.proofs.lemmas.Int.{unsigned_abs-mul}
use Rattle.std.proofs.lemmas.List.Elements.{All-nil, All-cons, All-head, All-tail, All-weaker, All-get_or}
use Rattle.frac_rows.specs.Divisors.{gcd_within, gcd, divisor_of}

IsGcd-gcd_within : (n a b : ℕ) → b ≤ n → IsGcd a b (gcd_within n a b)
IsGcd-gcd_within zero a b l = IsGcd-from_zero a b (omega arith)
IsGcd-gcd_within (suc n) a zero l = IsGcd-from_zero a zero refl
IsGcd-gcd_within (suc n) a (suc b) l =
    let less : a % suc b < suc b = mod-lt a (omega arith) in
    IsGcd-from_mod a (suc b) (gcd_within n (suc b) (a % suc b)) (IsGcd-gcd_within n (suc b) (a % suc b) (omega arith))

pub IsGcd-gcd : (a b : ℕ) → IsGcd a b (gcd a b)
unfolding gcd
IsGcd-gcd a b = IsGcd-gcd_within b a b (omega arith)

pub gcd_is : (a b g : ℕ) → IsGcd a b g → gcd a b ≡ g
gcd_is a b g h = same_from_IsGcd a b (gcd a b) g (IsGcd-gcd a b) h

pub gcd-zero : (a : ℕ) → gcd a 0 ≡ a
gcd-zero a = gcd_is a 0 a (IsGcd-from_zero a 0 refl)

pub gcd-one : (a : ℕ) → gcd a 1 ≡ 1
gcd-one a = eq-one_of_dvd-one (IsGcd-gcd a 1).1

-- one step of Euclid
pub gcd-mod : (a b : ℕ) → gcd b (a % b) ≡ gcd a b
gcd-mod a b = sym (gcd_is a b (gcd b (a % b)) (IsGcd-from_mod a b (gcd b (a % b)) (IsGcd-gcd b (a % b))))

-- a number that the second one divides adds nothing
pub gcd_of_multiple : (a b : ℕ) → b ∣ a → gcd a b ≡ b
gcd_of_multiple a b h = gcd_is a b b (h, dvd_refl b, λ d _ q. q)

-- where a number that gives the first one was found, the second one divides it
pub gcd_found : (r : Option ℤ) (d n : ℕ) (z : ℤ) → d ≡ n → IfSome r (λ q. pos d *ℤ q ≡ z) → IsTrue (is_some r) → gcd (unsigned_abs z) n ≡ n
gcd_found None d n z e h some = absurd cc
gcd_found (Some q) d n z e h some =
    let product : d * unsigned_abs q ≡ unsigned_abs z = sym (unsigned_abs-mul (pos d) q) ∙ ap unsigned_abs h in
    let divides : d ∣ unsigned_abs z = subst (λ (x : ℕ). d ∣ x) product (dvd-mul_right d (unsigned_abs q)) in
    gcd_of_multiple (unsigned_abs z) n (subst (λ (x : ℕ). x ∣ unsigned_abs z) e divides)

-- a common factor comes out
pub gcd-times : (m a b : ℕ) → 1 ≤ m → gcd (m * a) (m * b) ≡ m * gcd a b
gcd-times m a b low =
    let whole = IsGcd-gcd (m * a) (m * b) in
    let part = IsGcd-gcd a b in
    let below : (m * gcd a b) ∣ gcd (m * a) (m * b) =
    whole.2 (m * gcd a b) (mul-dvd-mul_left (gcd a b) m part.0) (mul-dvd-mul_left (gcd a b) m part.1) in
    let of_m : m ∣ gcd (m * a) (m * b) = whole.2 m (dvd-mul_right m a) (dvd-mul_right m b) in
    let k = gcd (m * a) (m * b) / m in
    let is : m * k ≡ gcd (m * a) (m * b) = mul-div_cancel' m of_m in
    let left : (m * k) ∣ (m * a) = subst (λ (x : ℕ). x ∣ (m * a)) (sym is) whole.0 in
    let right : (m * k) ∣ (m * b) = subst (λ (x : ℕ). x ∣ (m * b)) (sym is) whole.1 in
    let both : k ∣ gcd a b = part.2 k (dvd_of_mul-dvd-mul_left {k = m} k low left) (dvd_of_mul-dvd-mul_left {k = m} k low right) in
    let above : gcd (m * a) (m * b) ∣ (m * gcd a b) = subst (λ (x : ℕ). x ∣ (m * gcd a b)) is (mul-dvd-mul_left k m both) in
    dvd_antisymm above below

-- ---- of a row

-- the divisor divides each number of the row
pub divisor_divides : (xs : List ℤ) → All (λ x. divisor_of xs ∣ unsigned_abs x) xs
unfolding divisor_of
divisor_divides [] = All-nil (λ x. 0 ∣ unsigned_abs x)
divisor_divides (x ∷ xs) =
    let parts = IsGcd-gcd (unsigned_abs x) (divisor_of xs) in
    All-cons (λ y. gcd (unsigned_abs x) (divisor_of xs) ∣ unsigned_abs y) x xs parts.0
    (All-weaker (λ y. divisor_of xs ∣ unsigned_abs y) (λ y. gcd (unsigned_abs x) (divisor_of xs) ∣ unsigned_abs y)
    (λ y h. dvd_trans (gcd (unsigned_abs x) (divisor_of xs)) parts.1 h) xs (divisor_divides xs))

-- and each number that does so divides it
pub divides_divisor : (d : ℕ) (xs : List ℤ) → All (λ x. d ∣ unsigned_abs x) xs → d ∣ divisor_of xs
unfolding divisor_of
divides_divisor d [] h = dvd-zero d
divides_divisor d (x ∷ xs) h =
    (IsGcd-gcd (unsigned_abs x) (divisor_of xs)).2 d (All-head (λ y. d ∣ unsigned_abs y) x xs h)
    (divides_divisor d xs (All-tail (λ y. d ∣ unsigned_abs y) x xs h))

pub divisor_of-times : (m : ℕ) (xs : List ℤ) → 1 ≤ m → divisor_of (map (λ x. pos m *ℤ x) xs) ≡ m * divisor_of xs
unfolding divisor_of
divisor_of-times m [] low = omega arith
divisor_of-times m (x ∷ xs) low =
    ap₂ gcd (unsigned_abs-mul (pos m) x) (divisor_of-times m xs low) ∙ gcd-times m (unsigned_abs x) (divisor_of xs) low

-- numbers that it divides already add nothing to the divisor of a row
pub divisor_of-append : (ys xs : List ℤ) → All (λ y. divisor_of xs ∣ unsigned_abs y) ys → divisor_of (ys ++ xs) ≡ divisor_of xs
unfolding divisor_of
divisor_of-append [] xs h = refl
divisor_of-append (y ∷ ys) xs h =
    ap (gcd (unsigned_abs y)) (divisor_of-append ys xs (All-tail (λ y. divisor_of xs ∣ unsigned_abs y) y ys h))
    ∙ gcd_of_multiple (unsigned_abs y) (divisor_of xs) (All-head (λ y. divisor_of xs ∣ unsigned_abs y) y ys h)

-- a row with a 1 has the divisor 1
pub divisor_of_one : (xs : List ℤ) (i : ℕ) → i < length xs → get_or xs i (pos 0) ≡ pos 1 → divisor_of xs ≡ 1
divisor_of_one xs i low e =
    let one = All-get_or (λ x. divisor_of xs ∣ unsigned_abs x) xs i (pos 0) low (divisor_divides xs) in
    eq-one_of_dvd-one (subst (λ (x : ℤ). divisor_of xs ∣ unsigned_abs x) e one)
