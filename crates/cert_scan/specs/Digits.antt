-- Digits of a text, and eight bytes of it as one word.
use Rattle.std.specs.Prelude.{◌≡◌, ℕ, ◌+◌, ◌-◌, ◌*◌, ◌<◌, ◌≤◌, List, [], ◌∷◌, length, map, nat_le, if◌then◌else◌}

-- the bytes are digits
abbrev pub AreDigits : List ℕ → Type 0
AreDigits [] = Unit {0}
AreDigits (byte ∷ bytes) = (48 ≤ byte) × (byte ≤ 57) × AreDigits bytes

-- the number that digits of these values spell behind those of n
abbrev pub spelled : ℕ → List ℕ → ℕ
spelled n [] = n
spelled n (digit ∷ digits) = spelled (n * 10 + digit) digits

-- what the digits are worth
abbrev pub digit_values : List ℕ → List ℕ
digit_values digits = map (λ b. b - 48) digits

-- the bytes are digits that spell the number
pub record Spell (bytes : List ℕ) (value : ℕ) : Type 0 where
  pub digits : AreDigits bytes
  pub is : value ≡ spelled 0 (digit_values bytes)

-- each number is below the limit
abbrev pub AreBelow : ℕ → List ℕ → Type 0
AreBelow limit [] = Unit {0}
AreBelow limit (x ∷ xs) = (x < limit) × AreBelow limit xs

-- eight numbers below the limit
pub record AreEight (limit : ℕ) (xs : List ℕ) : Type 0 where
  pub eight : length xs ≡ 8
  pub below : AreBelow limit xs

-- the word that has these bytes, the first of them lowest
abbrev pub word_of : List ℕ → ℕ
word_of [] = 0
word_of (byte ∷ bytes) = byte + 256 * word_of bytes

-- a byte that is 10 or more
abbrev pub mark : ℕ → ℕ
mark byte = if nat_le 10 byte then 128 else 0
