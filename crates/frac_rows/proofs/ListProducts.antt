-- Products of lists, and sums of products of which at most one is not 0.
use Rattle.std.proofs.Common.{◌≡◌, ◌≢◌, ℕ, zero, suc, ◌*◌, ◌<◌, ◌≤◌, List, [], ◌∷◌, length, get_or, All, ℤ, pos, ◌*ℤ◌, refl, ap, ◌∙◌, arith}
use Rattle.std.proofs.Math.Nat.{mul_left_comm}
use Rattle.std.proofs.lemmas.Nat.{mul-le}
use Rattle.std.proofs.lemmas.Int.{ints}
use Rattle.std.proofs.lemmas.List.Elements.{All-head, All-tail}
use Rattle.frac_rows.specs.Rows.{number}
use Rattle.frac_rows.specs.Stored.{dot}

abbrev pub product : List ℕ → ℕ
product [] = 1
product (x ∷ xs) = x * product xs

-- the product of all but the i-th
abbrev pub product_but : List ℕ → ℕ → ℕ
product_but [] i = 1
product_but (x ∷ xs) zero = product xs
product_but (x ∷ xs) (suc i) = x * product_but xs i

pub product_at : (xs : List ℕ) (i : ℕ) → i < length xs → product xs ≡ get_or xs i 0 * product_but xs i
product_at [] i low = absurd (omega arith)
product_at (x ∷ xs) zero low = refl
product_at (x ∷ xs) (suc i) low =
    ap (λ n. x * n) (product_at xs i (omega arith)) ∙ mul_left_comm x (get_or xs i 0) (product_but xs i)

pub product_low : (xs : List ℕ) → All (λ x. 1 ≤ x) xs → 1 ≤ product xs
product_low [] low = omega arith
product_low (x ∷ xs) low =
    let first = All-head (λ x. 1 ≤ x) x xs low in
    let rest = product_low xs (All-tail (λ x. 1 ≤ x) x xs low) in
    mul-le 1 1 x (product xs) first rest

-- ---- sums of products

pub dot_none : (row values : List ℤ) → ((k : ℕ) → number row k *ℤ number values k ≡ pos 0) → dot row values ≡ pos 0
dot_none [] values none = refl
dot_none (x ∷ row) [] none = refl
dot_none (x ∷ row) (y ∷ values) none = omega (arith, ints, none 0, dot_none row values (λ k. none (suc k)))

-- where all other products are 0, one is the sum
pub dot_one : (row values : List ℤ) (c : ℕ) → c < length row → c < length values → ((k : ℕ) → k ≢ c → number row k *ℤ number values k ≡ pos 0)
    → dot row values ≡ number row c *ℤ number values c
dot_one [] values c low within none = absurd (omega arith)
dot_one (x ∷ row) [] c low within none = absurd (omega arith)
dot_one (x ∷ row) (y ∷ values) zero low within none =
    omega (arith, ints, dot_none row values (λ k. none (suc k) (λ e. absurd (omega arith))))
dot_one (x ∷ row) (y ∷ values) (suc c) low within none =
    let first = none 0 (λ e. absurd (omega arith)) in
    let rest = dot_one row values c (omega arith) (omega arith) (λ k other. none (suc k) (λ e. other (omega arith))) in
    omega (arith, ints, first, rest)
