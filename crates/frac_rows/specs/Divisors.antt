-- The greatest common divisor of a row's numbers, and the row divided by it.
use Rattle.std.specs.Prelude.{ℕ, zero, suc, ◌%◌, List, [], ◌∷◌, map, ℤ, pos, unsigned_abs, int_div}

-- Euclid's steps, at most as many as the first number says
abbrev pub gcd_within : ℕ → ℕ → ℕ → ℕ
gcd_within zero a b = a
gcd_within (suc n) a zero = a
gcd_within (suc n) a (suc b) = gcd_within n (suc b) (a % suc b)

-- the greatest common divisor of two numbers
unfoldable pub gcd : ℕ → ℕ → ℕ
gcd a b = gcd_within b a b

-- the greatest common divisor of the sizes of all numbers; 0 where all of them are 0
unfoldable pub divisor_of : List ℤ → ℕ
divisor_of [] = 0
divisor_of (x ∷ xs) = gcd (unsigned_abs x) (divisor_of xs)

-- a number divided by a divisor of it; 0 where the divisor is 0
unfoldable pub quotient : ℤ → ℕ → ℤ
quotient z g = int_div z (pos g)

-- the row divided by the greatest common divisor of all of its numbers
unfoldable pub reduced : List ℤ → List ℤ
reduced row = map (λ x. quotient x (divisor_of row)) row
