-- Digits in the bytes of a word.
use Rattle.std.proofs.Common.{◌≡◌, ℕ, zero, suc, ◌+◌, ◌-◌, ◌*◌, ◌/◌, ◌%◌, ◌^◌, ◌<◌, ◌≤◌, Bool, true, false, ◌&&◌, ◌||◌, List, [], ◌∷◌, ◌++◌, length, map, take, nat_eq, nat_le, inl, inr, refl, sym, ap, ◌∙◌, arith, map-id}
use Rattle.std.specs.Prelude.{replicate}
use Rattle.std.specs.Int.Bits.{bit_and, bit_or, bit_xor}
use Rattle.std.specs.Int.{bit_at, w64, trailing_zeros}
use Rattle.std.proofs.lemmas.Bool.{and_parts, or_cases, cond-true, cond-false, eqb-true, leb-true, false≢true, cases_eq}
use Rattle.std.proofs.lemmas.Nat.{and_block, or_block, xor_block, and_mask, or_lt, xor_lt, and_le_r, pow-add, mul-mod_first}
use Rattle.std.proofs.lemmas.Nat.Bits.{bit_at_cat_low, bit_at_cat_high, bit_at-trailing_zeros, bit_at-zero}
use Rattle.std.proofs.lemmas.List.{take_all, length-append, length-replicate, length-take-le, length-map}
use Rattle.std.proofs.Math.Nat.{mul-div_cancel, mul_assoc, add-zero, mod-eq_of_lt, pow-suc, zero-mod, mul-mod_left}
use Rattle.std.proofs.Math.Arith.{digits_div, digits_mod, mod-mul}
use Rattle.hub_spec.proofs.SumLemmas.{by_test}
use Rattle.cert_scan.specs.Digits.{AreDigits, spelled, digit_values, Spell, AreBelow, AreEight, word_of, mark}

-- ---- an operation goes by the byte

map_below : (f : ℕ → ℕ) → ((b : ℕ) → b < 256 → f b < 256) → (xs : List ℕ) → AreBelow 256 xs → AreBelow 256 (map f xs)
map_below f h [] below = tt
map_below f h (x ∷ xs) below = (h x below.0, map_below f h xs below.1)

by_byte : (o : ℕ → ℕ → ℕ) → o 0 0 ≡ 0 → ((k a b r s : ℕ) → r < 2 ^ k → s < 2 ^ k → o (a * 2 ^ k + r) (b * 2 ^ k + s) ≡ o a b * 2 ^ k + o r s)
    → (f g : ℕ → ℕ) (xs : List ℕ) → AreBelow 256 (map f xs) → AreBelow 256 (map g xs)
    → o (word_of (map f xs)) (word_of (map g xs)) ≡ word_of (map (λ b. o (f b) (g b)) xs)
by_byte o zeros block f g [] a b = zeros
by_byte o zeros block f g (x ∷ xs) a b =
    let left : f x + 256 * word_of (map f xs) ≡ word_of (map f xs) * 2 ^ 8 + f x = omega arith in
    let right : g x + 256 * word_of (map g xs) ≡ word_of (map g xs) * 2 ^ 8 + g x = omega arith in
    (λ i. o (left i) (right i)) ∙ block 8 (word_of (map f xs)) (word_of (map g xs)) (f x) (g x) a.0 b.0
    ∙ omega (arith, by_byte o zeros block f g xs a.1 b.1)

sum_by_byte : (f g : ℕ → ℕ) (xs : List ℕ) → word_of (map f xs) + word_of (map g xs) ≡ word_of (map (λ b. f b + g b) xs)
sum_by_byte f g [] = refl
sum_by_byte f g (x ∷ xs) = omega (arith, sum_by_byte f g xs)

-- one byte, eight times
constant : (c : ℕ) (xs : List ℕ) → map (λ b. c) xs ≡ replicate (length xs) c
constant c [] = refl
constant c (x ∷ xs) = ap (λ l. c ∷ l) (constant c xs)

eight_times : (c : ℕ) (xs : List ℕ) → length xs ≡ 8 → word_of (map (λ b. c) xs) ≡ c * 0x0101_0101_0101_0101
eight_times c xs eight =
    let there : word_of (replicate 8 c) ≡ c * 0x0101_0101_0101_0101 = omega arith in
    ap word_of (constant c xs) ∙ ap (λ n. word_of (replicate n c)) eight ∙ there

-- one operand is the same in each byte
with_byte : (o : ℕ → ℕ → ℕ) → o 0 0 ≡ 0 → ((k a b r s : ℕ) → r < 2 ^ k → s < 2 ^ k → o (a * 2 ^ k + r) (b * 2 ^ k + s) ≡ o a b * 2 ^ k + o r s)
    → (f : ℕ → ℕ) (c word : ℕ) (xs : List ℕ) → c < 256 → ((b : ℕ) → b < 256 → f b < 256) → AreEight 256 xs → word ≡ word_of (map f xs)
    → o word (c * 0x0101_0101_0101_0101) ≡ word_of (map (λ b. o (f b) c) xs)
with_byte o zeros block f c word xs low small h e =
    (λ i. o (e i) (sym (eight_times c xs h.eight) i))
    ∙ by_byte o zeros block f (λ b. c) xs (map_below f small xs h.below) (map_below (λ b. c) (λ b fits. low) xs h.below)

same_bytes : (f g : ℕ → ℕ) → ((b : ℕ) → b < 256 → f b ≡ g b) → (xs : List ℕ) → AreBelow 256 xs → map f xs ≡ map g xs
same_bytes f g h [] below = refl
same_bytes f g h (x ∷ xs) below = (λ i. h x below.0 i ∷ same_bytes f g h xs below.1 i)

-- ---- facts of one byte, by trying each

abbrev each_below : ℕ → (ℕ → Bool) → Bool
each_below zero test = true
each_below (suc n) test = test n && each_below n test

tried : (n : ℕ) (test : ℕ → Bool) → each_below n test ≡ true → (b : ℕ) → b < n → test b ≡ true
tried zero test e b low = absurd (omega arith)
tried (suc n) test e b low =
    let k = and_parts (test n) (each_below n test) e in
    elim (cases_eq b n) [
      | inl same ↦ ap test same ∙ k.0
      | inr other ↦ tried n test k.1 b (omega arith)
    ]

-- what `marks` makes of a byte
abbrev marked : ℕ → ℕ
marked b = bit_and (bit_or (bit_and b 127 + 118) b) 128

mark_is : (b : ℕ) → b < 256 → marked b ≡ mark b
mark_is b low = eqb-true (marked b) (mark b) (tried 256 (λ x. nat_eq (marked x) (mark x)) refl b low)

pub marks_are : (xs : List ℕ) (word : ℕ) → AreEight 256 xs → word ≡ word_of xs
    → bit_and (bit_or (bit_and word 0x7f7f_7f7f_7f7f_7f7f + 0x7676_7676_7676_7676) word) 0x8080_8080_8080_8080 ≡ word_of (map mark xs)
marks_are xs word h e =
    let itself : word ≡ word_of (map (λ b. b) xs) = e ∙ ap word_of (sym (map-id xs)) in
    let low : bit_and word 0x7f7f_7f7f_7f7f_7f7f ≡ word_of (map (λ b. bit_and b 127) xs) =
    with_byte bit_and refl and_block (λ b. b) 127 word xs (omega arith) (λ b fits. fits) h itself in
    let sum : bit_and word 0x7f7f_7f7f_7f7f_7f7f + 0x7676_7676_7676_7676 ≡ word_of (map (λ b. bit_and b 127 + 118) xs) =
    (λ i. low i + sym (eight_times 118 xs h.eight) i) ∙ sum_by_byte (λ b. bit_and b 127) (λ b. 118) xs in
    let small : (b : ℕ) → b < 256 → bit_and b 127 + 118 < 256 = λ b fits. omega (arith, and_le_r b 127) in
    let either : bit_or (bit_and word 0x7f7f_7f7f_7f7f_7f7f + 0x7676_7676_7676_7676) word ≡ word_of (map (λ b. bit_or (bit_and b 127 + 118) b) xs) =
    (λ i. bit_or (sum i) (itself i))
    ∙ by_byte bit_or refl or_block (λ b. bit_and b 127 + 118) (λ b. b) xs (map_below (λ b. bit_and b 127 + 118) small xs h.below)
    (map_below (λ b. b) (λ b fits. fits) xs h.below) in
    with_byte bit_and refl and_block (λ b. bit_or (bit_and b 127 + 118) b) 128 (bit_or (bit_and word 0x7f7f_7f7f_7f7f_7f7f + 0x7676_7676_7676_7676) word) xs (omega arith)
    (λ b fits. or_lt 8 (bit_and b 127 + 118) b (small b fits) fits) h either
    ∙ ap word_of (same_bytes marked mark mark_is xs h.below)

-- the bits of `0` turned
abbrev pub lane : ℕ → ℕ
lane b = bit_xor b 48

lane_low : (b : ℕ) → b < 256 → lane b < 256
lane_low b low = xor_lt 8 b 48 low (omega arith)

pub lanes_are : (xs : List ℕ) (word : ℕ) → AreEight 256 xs → word ≡ word_of xs → bit_xor word 0x3030_3030_3030_3030 ≡ word_of (map lane xs)
lanes_are xs word h e =
    with_byte bit_xor refl xor_block (λ b. b) 48 word xs (omega arith) (λ b fits. fits) h (e ∙ ap word_of (sym (map-id xs)))

pub lanes_eight : (xs : List ℕ) → AreEight 256 xs → AreEight 256 (map lane xs)
lanes_eight xs h = record { eight = length-map xs lane ∙ h.eight; below = map_below lane lane_low xs h.below }

-- a byte with no mark is a digit, and its lane what it is worth
record IsDigit (b : ℕ) : Type 0 where
  low : 48 ≤ b
  high : b ≤ 57
  worth : lane b ≡ b - 48

abbrev tells_digit : ℕ → Bool
tells_digit b = nat_le 10 (lane b) || (nat_le 48 b && (nat_le b 57 && nat_eq (lane b) (b - 48)))

digit_is : (b : ℕ) → b < 256 → nat_le 10 (lane b) ≡ false → IsDigit b
digit_is b fits low =
    elim (or_cases (nat_le 10 (lane b)) (nat_le 48 b && (nat_le b 57 && nat_eq (lane b) (b - 48))) (tried 256 tells_digit refl b fits)) [
      | inl high ↦ absurd (false≢true (sym low ∙ high))
      | inr is ↦ (let k = and_parts (nat_le 48 b) (nat_le b 57 && nat_eq (lane b) (b - 48)) is in
          let m = and_parts (nat_le b 57) (nat_eq (lane b) (b - 48)) k.1 in
          record { low = leb-true 48 b k.0; high = leb-true b 57 m.0; worth = eqb-true (lane b) (b - 48) m.1 })
    ]

-- ---- the digits before the first mark

mark_bit : (b : ℕ) → bit_at (mark b) 7 ≡ 0 → nat_le 10 b ≡ false
mark_bit b e =
    by_test (nat_le 10 b)
    (λ high. (let marked : mark b ≡ 128 = cond-true (nat_le 10 b) 128 0 high in
    let one : bit_at 128 7 ≡ 1 = refl in
    absurd (omega (arith, sym e ∙ ap (λ m. bit_at m 7) marked ∙ one))))
    (λ low. low)

mark_low : (b : ℕ) → mark b < 256
mark_low b =
    by_test (nat_le 10 b) (λ high. (let is : mark b ≡ 128 = cond-true (nat_le 10 b) 128 0 high in omega arith))
    (λ low. (let is : mark b ≡ 0 = cond-false (nat_le 10 b) 128 0 low in omega arith))

-- no bit is set below the marks of so many bytes
Unmarked : List ℕ → ℕ → Type 0
Unmarked xs n = (i : ℕ) → i < 8 * n → bit_at (word_of (map mark xs)) i ≡ 0

-- the first ones are digits
pub record Digits (xs : List ℕ) (n : ℕ) : Type 0 where
  pub digits : AreDigits (take n xs)
  pub worth : take n (map lane xs) ≡ digit_values (take n xs)

front_digits : (xs : List ℕ) (n : ℕ) → AreBelow 256 xs → Unmarked (map lane xs) n → Digits xs n
unfolding Unmarked
front_digits xs zero below h = record { digits = tt; worth = refl }
front_digits [] (suc n) below h = record { digits = tt; worth = refl }
front_digits (x ∷ xs) (suc n) below h =
    let rest = word_of (map mark (map lane xs)) in
    let split : mark (lane x) + 256 * word_of (map mark (map lane xs)) ≡ word_of (map mark (map lane xs)) * 2 ^ 8 + mark (lane x) = omega arith in
    let here : bit_at (mark (lane x)) 7 ≡ 0 =
    sym (bit_at_cat_low (word_of (map mark (map lane xs))) 8 (mark (lane x)) 7 (omega arith)) ∙ ap (λ w. bit_at w 7) (sym split) ∙ h 7 (omega arith) in
    let is = digit_is x below.0 (mark_bit (lane x) here) in
    let later : (i : ℕ) → i < 8 * n → bit_at (word_of (map mark (map lane xs))) i ≡ 0 = λ i low. (
    let back : i + 8 - 8 ≡ i = omega arith in
    ap (bit_at rest) (sym back) ∙ sym (bit_at_cat_high rest 8 (mark (lane x)) (i + 8) (mark_low (lane x)) (omega arith)) ∙ ap (λ w. bit_at w (i + 8)) (sym split)
    ∙ h (i + 8) (omega arith)) in
    let more = front_digits xs n below.1 later in
    record { digits = (is.low, is.high, more.digits); worth = (λ i. is.worth i ∷ more.worth i) }

-- where no byte is marked, and below the first one that is
pub all_digits : (xs : List ℕ) (m : ℕ) → AreEight 256 xs → m ≡ word_of (map mark (map lane xs)) → m ≡ 0 → Digits xs 8
unfolding Unmarked
all_digits xs m h e none = front_digits xs 8 h.below (λ i low. ap (λ w. bit_at w i) (sym e ∙ none) ∙ bit_at-zero i)

pub first_digits : (xs : List ℕ) (m : ℕ) → AreEight 256 xs → m ≡ word_of (map mark (map lane xs)) → 0 < m → m < 2 ^ 64
    → (trailing_zeros w64 m / 8 < 8) × Digits xs (trailing_zeros w64 m / 8)
unfolding Unmarked
first_digits xs m h e some fits =
    let zeros = bit_at-trailing_zeros w64 m some fits in
    let low = zeros.0 in (
      omega arith,
      front_digits xs (trailing_zeros w64 m / 8) h.below (λ i below. ap (λ w. bit_at w i) (sym e) ∙ zeros.2 i (omega arith)),
    )

-- ---- digits moved up behind zeros

power_some : (n : ℕ) → 0 < 256 ^ n
power_some zero = omega arith
power_some (suc n) = omega (arith, pow-suc 256 n, power_some n)

bytes_front : (xs : List ℕ) (n : ℕ) → AreBelow 256 xs → word_of xs % 256 ^ n ≡ word_of (take n xs)
bytes_front xs zero h = omega arith
bytes_front [] (suc n) h = zero-mod _
bytes_front (x ∷ xs) (suc n) h =
    let e : x + 256 * word_of xs ≡ word_of xs * 256 + x = omega arith in
    let some : 0 < 256 = omega arith in
    let power : 0 < 256 ^ n = power_some n in
    ap (λ w. w % 256 ^ suc n) e ∙ ap (λ p. (word_of xs * 256 + x) % p) (pow-suc 256 n) ∙ mod-mul (word_of xs * 256 + x) power some
    ∙ (λ i. (digits_div (word_of xs) h.0 i % 256 ^ n) * 256 + digits_mod (word_of xs) h.0 i)
    ∙ omega (arith, bytes_front xs n h.1)

zeros_front : (k : ℕ) (ds : List ℕ) → word_of (replicate k 0 ++ ds) ≡ word_of ds * 256 ^ k
zeros_front zero ds = omega arith
zeros_front (suc k) ds = omega (arith, zeros_front k ds, ap (λ x. word_of ds * x) (pow-suc 256 k))

scaled : (a m c : ℕ) → 0 < m → 0 < c → a * c % (m * c) ≡ a % m * c
scaled a m c some other =
    mod-mul (a * c) some other
    ∙ (λ i. (mul-div_cancel a other i % m) * c + mul-mod_left a c i) ∙ add-zero _

-- the two shifts are one
pub shifted_up : (word n : ℕ) → n < 8 → word * 2 ^ (56 - 8 * n) % 2 ^ 64 * 2 ^ 8 % 2 ^ 64 ≡ word * 256 ^ (8 - n) % 2 ^ 64
shifted_up word n few =
    let same : 2 ^ (56 - 8 * n) * 2 ^ 8 ≡ 256 ^ (8 - n) = eqb-true _ _ (tried 8 (λ k. nat_eq (2 ^ (56 - 8 * k) * 2 ^ 8) (256 ^ (8 - k))) refl n few) in
    mul-mod_first (word * 2 ^ (56 - 8 * n)) (2 ^ 8) (2 ^ 64) ∙ ap (λ x. x % 2 ^ 64) (mul_assoc word (2 ^ (56 - 8 * n)) (2 ^ 8) ∙ ap (λ x. word * x) same)

pub moved_is : (ys : List ℕ) (n word : ℕ) → AreEight 256 ys → n ≤ 8 → word ≡ word_of ys * 256 ^ (8 - n) % 2 ^ 64 → word ≡ word_of (replicate (8 - n) 0 ++ take n ys)
moved_is ys n word h few e =
    let whole : n + (8 - n) ≡ 8 = omega arith in
    let all : 256 ^ n * 256 ^ (8 - n) ≡ 2 ^ 64 = sym (pow-add 256 n (8 - n)) ∙ ap (λ k. 256 ^ k) whole in
    e ∙ ap (λ x. word_of ys * 256 ^ (8 - n) % x) (sym all) ∙ scaled (word_of ys) (256 ^ n) (256 ^ (8 - n)) (power_some n) (power_some (8 - n))
    ∙ ap (λ x. x * 256 ^ (8 - n)) (bytes_front ys n h.below) ∙ sym (zeros_front (8 - n) (take n ys))

spelled_zeros : (k : ℕ) (ds : List ℕ) → spelled 0 (replicate k 0 ++ ds) ≡ spelled 0 ds
spelled_zeros zero ds = refl
spelled_zeros (suc k) ds = spelled_zeros k ds

below_zeros : (k : ℕ) (ds : List ℕ) → AreBelow 10 ds → AreBelow 10 (replicate k 0 ++ ds)
below_zeros zero ds h = h
below_zeros (suc k) ds h = (omega arith, below_zeros k ds h)

values_low : (bytes : List ℕ) → AreDigits bytes → AreBelow 10 (digit_values bytes)
values_low [] h = tt
values_low (b ∷ bytes) h = (omega (arith, h.0, h.1), values_low bytes h.2)

-- the first digits behind zeros, as eight digits
pub record Padded (xs : List ℕ) (n word : ℕ) : Type 0 where
  pub digits : List ℕ
  pub eight : AreEight 10 digits
  pub word_is : word ≡ word_of digits
  pub spell : (value : ℕ) → value ≡ spelled 0 digits → Spell (take n xs) value

pub padded : (xs : List ℕ) (n word : ℕ) → AreEight 256 xs → n ≤ 8 → Digits xs n → word ≡ word_of (map lane xs) * 256 ^ (8 - n) % 2 ^ 64 → Padded xs n word
padded xs n word h few front e =
    let long = length-take-le n xs (omega (arith, h.eight)) in
    let zeros : List ℕ = replicate (8 - n) 0 in
    record {
      digits = replicate (8 - n) 0 ++ digit_values (take n xs);
      eight = record {
        eight = length-append zeros (digit_values (take n xs)) ∙ (λ i. length-replicate {A = ℕ} (8 - n) 0 i + (length-map (take n xs) (λ b. b - 48) ∙ long) i) ∙ omega arith;
        below = below_zeros (8 - n) (digit_values (take n xs)) (values_low (take n xs) front.digits);
      };
      word_is = moved_is (map lane xs) n word (lanes_eight xs h) few e ∙ ap (λ l. word_of (replicate (8 - n) 0 ++ l)) front.worth;
      spell = λ value is. record { digits = front.digits; is = is ∙ spelled_zeros (8 - n) (digit_values (take n xs)) };
    }

-- all eight
pub unpadded : (xs : List ℕ) (word : ℕ) → AreEight 256 xs → Digits xs 8 → word ≡ word_of (map lane xs) → Padded xs 8 word
unpadded xs word h all e = record {
  digits = digit_values (take 8 xs);
  eight = record {
    eight = length-map (take 8 xs) (λ b. b - 48) ∙ length-take-le 8 xs (omega (arith, h.eight));
    below = values_low (take 8 xs) all.digits;
  };
  word_is = e ∙ ap word_of (sym (take_all 8 (map lane xs) (omega (arith, length-map xs lane, h.eight))) ∙ all.worth);
  spell = λ value is. record { digits = all.digits; is = is };
}

-- ---- three multiplications

-- the mask keeps bytes 0 and 4
masked : (x : ℕ) → bit_and x 0x0000_00ff_0000_00ff ≡ x / 2 ^ 32 % 256 * 2 ^ 32 + x % 2 ^ 32 % 256
masked x =
    let e : x ≡ x / 2 ^ 32 * 2 ^ 32 + x % 2 ^ 32 = omega arith in
    ap (λ y. bit_and y 0x0000_00ff_0000_00ff) e ∙ and_block 32 (x / 2 ^ 32) 255 (x % 2 ^ 32) 255 (omega arith) (omega arith)
    ∙ (λ i. and_mask (x / 2 ^ 32) 8 i * 2 ^ 32 + and_mask (x % 2 ^ 32) 8 i)

abbrev product : ℕ → ℕ
product word =
    let pairs = (word * 10 % 2 ^ 64 + word / 2 ^ 8) % 2 ^ 64 in
    (bit_and pairs 0x0000_00ff_0000_00ff * 4294967296000100 % 2 ^ 64 + bit_and (pairs / 2 ^ 16) 0x0000_00ff_0000_00ff * 42949672960001 % 2 ^ 64) % 2 ^ 64 / 2 ^ 32

byte_low : (x : ℕ) → x < 100 → x < 256
byte_low x h = omega arith

first : (p r : ℕ) → p < 100 → r < 100 → (r * 2 ^ 32 + p) * 4294967296000100 % 2 ^ 64 ≡ (p * 1000000 + r * 100) * 2 ^ 32 + p * 100
first p r P R = omega arith

second : (q s : ℕ) → q < 100 → s < 100 → (s * 2 ^ 32 + q) * 42949672960001 % 2 ^ 64 ≡ (q * 10000 + s) * 2 ^ 32 + q
second q s Q S = omega arith

sum : (p q r s : ℕ) → p < 100 → q < 100 → r < 100 → s < 100
    → ((p * 1000000 + r * 100) * 2 ^ 32 + p * 100 + ((q * 10000 + s) * 2 ^ 32 + q)) % 2 ^ 64 / 2 ^ 32 ≡ p * 1000000 + q * 10000 + r * 100 + s
sum p q r s P Q R S =
    let all = (p * 1000000 + r * 100) * 2 ^ 32 + p * 100 + ((q * 10000 + s) * 2 ^ 32 + q) in
    let small : all < 2 ^ 64 = omega arith in
    let parts : all ≡ (p * 1000000 + q * 10000 + r * 100 + s) * 2 ^ 32 + (p * 100 + q) = omega arith in
    let low : p * 100 + q < 2 ^ 32 = omega arith in
    ap (λ x. x / 2 ^ 32) (mod-eq_of_lt small ∙ parts) ∙ digits_div (p * 1000000 + q * 10000 + r * 100 + s) low

-- p, q, r and s are the four pairs of digits, and x, y, z and w the bytes between them
combined : (p q r s x y z w pairs : ℕ) → p < 100 → q < 100 → r < 100 → s < 100 → x < 100 → y < 100 → z < 100 → w < 100
    → pairs ≡ p + 2 ^ 8 * x + 2 ^ 16 * q + 2 ^ 24 * y + 2 ^ 32 * r + 2 ^ 40 * z + 2 ^ 48 * s + 2 ^ 56 * w
    → (bit_and pairs 0x0000_00ff_0000_00ff * 4294967296000100 % 2 ^ 64 + bit_and (pairs / 2 ^ 16) 0x0000_00ff_0000_00ff * 42949672960001 % 2 ^ 64) % 2 ^ 64 / 2 ^ 32
    ≡ p * 1000000 + q * 10000 + r * 100 + s
combined p q r s x y z w pairs P Q R S X Y Z W e =
    let high : pairs / 2 ^ 32 ≡ (z + 2 ^ 8 * s + 2 ^ 16 * w) * 256 + r = omega arith in
    let low : pairs % 2 ^ 32 ≡ (x + 2 ^ 8 * q + 2 ^ 16 * y) * 256 + p = omega arith in
    let down : pairs / 2 ^ 16 ≡ (((w * 256) + s) * 2 ^ 32) + ((y + 2 ^ 8 * r + 2 ^ 16 * z) * 256 + q) = omega arith in
    let a : pairs / 2 ^ 32 % 256 ≡ r = rw high (digits_mod _ (byte_low r R)) in
    let b : pairs % 2 ^ 32 % 256 ≡ p = rw low (digits_mod _ (byte_low p P)) in
    let part : (y + 2 ^ 8 * r + 2 ^ 16 * z) * 256 + q < 2 ^ 32 = omega arith in
    let c : pairs / 2 ^ 16 / 2 ^ 32 % 256 ≡ s = rw (down, digits_div _ part) (digits_mod _ (byte_low s S)) in
    let d : pairs / 2 ^ 16 % 2 ^ 32 % 256 ≡ q = rw (down, digits_mod _ part) (digits_mod _ (byte_low q Q)) in
    rw (masked pairs, masked (pairs / 2 ^ 16), a, b, c, d, first p r P R, second q s Q S) (sum p q r s P Q R S)

-- they give the number that eight digits spell
pub joined_is : (ds : List ℕ) (word : ℕ) → AreEight 10 ds → word ≡ word_of ds → product word ≡ spelled 0 ds
joined_is (a ∷ b ∷ c ∷ d ∷ f ∷ g ∷ i ∷ j ∷ []) word h e =
    let low = h.below in
    let rest = b + 256 * (c + 256 * (d + 256 * (f + 256 * (g + 256 * (i + 256 * (j + 256 * 0)))))) in
    let parts : word ≡ rest * 256 + a = omega arith in
    let small : a < 256 = omega arith in
    let shifted : word / 2 ^ 8 ≡ rest = ap (λ x. x / 256) parts ∙ digits_div rest small in
    let tens : word * 10 < 2 ^ 64 = omega arith in
    let all : word * 10 + rest < 2 ^ 64 = omega arith in
    let pairs : (word * 10 % 2 ^ 64 + word / 2 ^ 8) % 2 ^ 64
    ≡ 10 * a + b + 2 ^ 8 * (10 * b + c) + 2 ^ 16 * (10 * c + d) + 2 ^ 24 * (10 * d + f) + 2 ^ 32 * (10 * f + g) + 2 ^ 40 * (10 * g + i) + 2 ^ 48 * (10 * i + j) + 2 ^ 56 * (10 * j) =
    rw (mod-eq_of_lt tens, shifted, mod-eq_of_lt all) (omega arith) in
    combined (10 * a + b) (10 * c + d) (10 * f + g) (10 * i + j) (10 * b + c) (10 * d + f) (10 * g + i) (10 * j) _ (omega arith) (omega arith) (omega arith) (omega arith)
    (omega arith) (omega arith) (omega arith) (omega arith) pairs ∙ omega arith
joined_is ds word h e = absurd (omega (arith, h.eight))
