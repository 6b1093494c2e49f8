-- Numbers that digits spell.
use Rattle.std.proofs.Common.{◌≡◌, ℕ, zero, suc, ◌+◌, ◌-◌, ◌*◌, ◌^◌, ◌<◌, ◌≤◌, List, [], ◌∷◌, ◌++◌, length, take, drop, get_or, Some, None, ◌⊎◌, inl, inr, refl, sym, ap, ◌∙◌, subst, arith, mul-le-mul_left}
use Rattle.std.proofs.Math.Nat.{pow-suc, mul-le-mul_right, pow-le-pow_right}
use Rattle.std.proofs.lemmas.Bool.{cases_eq}
use Rattle.std.proofs.lemmas.List.{take_more, length-take, length-take-le, length-drop, length-map, map-append, take-take, drop-drop, get_or-drop}
use Rattle.cert_scan.specs.Runs.{SpellsOn}
use Rattle.cert_scan.specs.Digits.{AreDigits, spelled, digit_values, Spell}
use Rattle.cert_scan.proofs.Goes.{with_digit-more}
use Rattle.cert_scan.proofs.Stepping.{take-add}

power_some : (n : ℕ) → 1 ≤ 10 ^ n
power_some zero = omega arith
power_some (suc n) = omega (arith, pow-suc 10 n, power_some n)

-- ---- digits behind digits

spelled-append : (n : ℕ) (xs ys : List ℕ) → spelled n (xs ++ ys) ≡ spelled (spelled n xs) ys
spelled-append n [] ys = refl
spelled-append n (x ∷ xs) ys = spelled-append (n * 10 + x) xs ys

spelled-scaled : (n : ℕ) (xs : List ℕ) → spelled n xs ≡ n * 10 ^ length xs + spelled 0 xs
spelled-scaled n [] = omega arith
spelled-scaled n (x ∷ xs) =
    omega (arith, spelled-scaled (n * 10 + x) xs, spelled-scaled (0 * 10 + x) xs, ap (λ p. n * p) (pow-suc 10 (length xs)))

digits-append : (xs ys : List ℕ) → AreDigits xs → AreDigits ys → AreDigits (xs ++ ys)
digits-append [] ys a b = b
digits-append (x ∷ xs) ys a b = (a.0, a.1, digits-append xs ys a.2 b)

-- so many digits, and so many behind them
pub spell_both : (bytes : List ℕ) (front back value more : ℕ) → Spell (take front bytes) value → Spell (take back (drop front bytes)) more
    → length (take back (drop front bytes)) ≡ back → Spell (take (front + back) bytes) (value * 10 ^ back + more)
spell_both bytes front back value more a b long =
    let xs = take front bytes in
    let ys = take back (drop front bytes) in
    let split : take (front + back) bytes ≡ take front bytes ++ take back (drop front bytes) = take-add front back bytes in
    let values : digit_values (take (front + back) bytes) ≡ digit_values (take front bytes) ++ digit_values (take back (drop front bytes)) =
    ap digit_values split ∙ map-append (λ b. b - 48) (take front bytes) (take back (drop front bytes)) in
    let count : length (digit_values (take back (drop front bytes))) ≡ back = length-map (take back (drop front bytes)) (λ b. b - 48) ∙ long in
    record {
      digits = subst AreDigits (sym split) (digits-append xs ys a.digits b.digits);
      is = (λ i. a.is i * 10 ^ back + b.is i)
          ∙ (λ i. spelled 0 (digit_values xs) * 10 ^ sym count i + spelled 0 (digit_values ys))
          ∙ sym (spelled-scaled (spelled 0 (digit_values xs)) (digit_values ys))
          ∙ sym (spelled-append 0 (digit_values xs) (digit_values ys)) ∙ ap (spelled 0) (sym values);
    }

-- one digit more
pub spell_more : (bytes : List ℕ) (count value digit : ℕ) → count < length bytes → get_or bytes count 0 ≡ 48 + digit → digit ≤ 9 → Spell (take count bytes) value
    → Spell (take (count + 1) bytes) (value * 10 + digit)
spell_more bytes count value digit within is low h =
    let split = take_more bytes count 0 within in
    let last = get_or bytes count 0 in
    let worth : get_or bytes count 0 - 48 ≡ digit = omega (arith, is) in
    let values : digit_values (take (count + 1) bytes) ≡ digit_values (take count bytes) ++ (get_or bytes count 0 - 48) ∷ [] =
    ap digit_values split ∙ map-append (λ b. b - 48) (take count bytes) (get_or bytes count 0 ∷ []) in
    record {
      digits = subst AreDigits (sym split) (digits-append (take count bytes) (last ∷ []) h.digits (omega (arith, is), omega (arith, is, low), tt));
      is = (λ i. h.is i * 10 + sym worth i) ∙ sym (spelled-append 0 (digit_values (take count bytes)) ((last - 48) ∷ [])) ∙ ap (spelled 0) (sym values);
    }

-- ---- how large a number is

spelled_low : (n : ℕ) (bytes : List ℕ) → AreDigits bytes → spelled n (digit_values bytes) + 1 ≤ (n + 1) * 10 ^ length bytes
spelled_low n [] h = omega arith
spelled_low n (b ∷ bytes) h =
    let p = 10 ^ length bytes in
    let next : n * 10 + (b - 48) + 1 ≤ (n + 1) * 10 = omega (arith, h.0, h.1) in
    let scaled : (n * 10 + (b - 48) + 1) * 10 ^ length bytes ≤ (n + 1) * 10 * 10 ^ length bytes = mul-le-mul_right (10 ^ length bytes) next in
    let power : (n + 1) * 10 ^ length (b ∷ bytes) ≡ (n + 1) * 10 * 10 ^ length bytes = omega (arith, ap (λ p. (n + 1) * p) (pow-suc 10 (length bytes))) in
    omega (arith, spelled_low (n * 10 + (b - 48)) bytes h.2, scaled, power)

-- a number of so many digits
pub spell_low : (bytes : List ℕ) (value most : ℕ) → Spell bytes value → length bytes ≤ most → value < 10 ^ most
spell_low bytes value most h few =
    let power = pow-le-pow_right {n = 10} (omega arith) few in
    omega (arith, h.is, spelled_low 0 (bytes) h.digits, power)

-- ---- digits that go on with a number

spells_on : (n : ℕ) (bytes : List ℕ) → AreDigits bytes → 1 ≤ n → (n + 1) * 10 ^ length bytes ≤ 10 ^ 33 → SpellsOn (Some n) bytes (Some (spelled n (digit_values bytes)))
spells_on n [] h some few = refl
spells_on n (b ∷ bytes) h some few =
    let p : ℕ = 10 ^ length bytes in
    let one = power_some (length bytes) in
    let power : (n + 1) * 10 ^ length (b ∷ bytes) ≡ (n + 1) * 10 * 10 ^ length bytes = omega (arith, ap (λ p. (n + 1) * p) (pow-suc 10 (length bytes))) in
    let least : (n + 1) * 10 * 1 ≤ (n + 1) * 10 * 10 ^ length bytes = mul-le-mul_left ((n + 1) * 10) one in
    let low : n < 10 ^ 32 = omega (arith, few, power, least) in
    let next : n * 10 + (b - 48) + 1 ≤ (n + 1) * 10 = omega (arith, h.0, h.1) in
    let scaled : (n * 10 + (b - 48) + 1) * 10 ^ length bytes ≤ (n + 1) * 10 * 10 ^ length bytes = mul-le-mul_right (10 ^ length bytes) next in
    (n * 10 + (b - 48), h.0, h.1, with_digit-more n (b - 48) some low, spells_on (n * 10 + (b - 48)) bytes h.2 (omega (arith, some)) (omega (arith, few, power, scaled)))

above_zero : (b : ℕ) → 48 ≤ b → (b ≡ 48 → ⊥) → 49 ≤ b
above_zero b low other = elim (cases_eq b 48) [ inl zero_is ↦ absurd (other zero_is) | inr above ↦ omega arith ]

-- a number of few digits, of which the first is 0 only where it is alone
pub spells_whole : (bytes : List ℕ) (count value : ℕ) → Spell (take count bytes) value → 1 ≤ count → count ≤ 32 → count ≤ length bytes
    → (count ≡ 1) ⊎ (get_or bytes 0 0 ≡ 48 → ⊥) → SpellsOn None (take count bytes) (Some value)
spells_whole [] count value h some few fits first = absurd (omega (arith, some, fits))
spells_whole (b ∷ bytes) zero value h some few fits first = absurd (omega (arith, some))
spells_whole (b ∷ bytes) (suc zero) value h some few fits first = (b - 48, h.digits.0, h.digits.1, refl, ap (λ (v : ℕ). Some v) (omega (arith, h.is)))
spells_whole (b ∷ bytes) (suc (suc n)) value h some few fits first =
    let rest = take (suc n) bytes in
    let more = h.digits.2 in
    let digit : 48 ≤ b = h.digits.0 in
    let high : b ≤ 57 = h.digits.1 in
    let other : b ≡ 48 → ⊥ = elim first [ inl one ↦ absurd (omega (arith, one)) | inr nonzero ↦ nonzero ] in
    let above : 49 ≤ b = above_zero b digit other in
    let long : length (take (suc n) bytes) ≡ suc n = length-take-le (suc n) bytes (omega (arith, fits)) in
    let short : length (take (suc n) bytes) ≤ 31 = omega (arith, long, few) in
    let power : 10 ^ length (take (suc n) bytes) ≤ 10 ^ 31 = pow-le-pow_right {n = 10} (omega arith) short in
    let scaled : (b - 48 + 1) * 10 ^ length (take (suc n) bytes) ≤ (b - 48 + 1) * 10 ^ 31 = mul-le-mul_left (b - 48 + 1) power in
    let start : 0 * 10 + (b - 48) ≡ b - 48 = omega arith in
    let spelled_is : spelled (b - 48) (digit_values rest) ≡ value = ap (λ m. spelled m (digit_values rest)) (sym start) ∙ sym h.is in (
      b - 48,
      digit,
      high,
      refl,
      subst (λ v. SpellsOn (Some (b - 48)) rest (Some v)) spelled_is
          (spells_on (b - 48) rest more (omega (arith, above)) (omega (arith, scaled, high))),
    )

-- ---- digits of a text, by words

-- up to so many digits spell a number below a power of ten
pub spell_below : (bytes : List ℕ) (count most value : ℕ) → Spell (take count bytes) value → count ≤ most → value < 10 ^ most
spell_below bytes count most value h few = spell_low (take count bytes) value most h (omega (arith, length-take count bytes, few))

-- the digits of one word
pub spell_word : (bytes : List ℕ) (at count value : ℕ) → count ≤ 8 → Spell (take count (take 8 (drop at bytes))) value → Spell (take count (drop at bytes)) value
spell_word bytes at count value few h = subst (λ l. Spell l value) (take-take count 8 (drop at bytes) few) h

-- eight bytes of a text, and the digits that begin them
pub record WordAt (bytes : List ℕ) (at : ℕ) (digits : ℕ × ℕ) : Type 0 where
  pub few : digits.0 ≤ 8
  pub spell : Spell (take digits.0 (take 8 (drop at bytes))) digits.1

-- and those of another word behind so many digits
pub spell_behind : (bytes : List ℕ) (at count power value : ℕ) (back : ℕ × ℕ) → Spell (take count (drop at bytes)) value → WordAt bytes (at + count) back
    → power ≡ 10 ^ back.0 → at + count + 8 ≤ length bytes → Spell (take (count + back.0) (drop at bytes)) (value * power + back.1)
spell_behind bytes at count power value back first b is fits =
    let few = b.few in
    let behind : drop (at + count) bytes ≡ drop count (drop at bytes) = sym (drop-drop count at bytes) in
    let next : Spell (take back.0 (drop count (drop at bytes))) back.1 =
    subst (λ l. Spell (take back.0 l) back.1) behind (spell_word bytes (at + count) back.0 back.1 b.few b.spell) in
    subst (λ p. Spell (take (count + back.0) (drop at bytes)) (value * p + back.1)) (sym is)
    (spell_both (drop at bytes) count back.0 value back.1 first next
    (length-take-le back.0 (drop count (drop at bytes)) (omega (arith, ap length (sym behind), length-drop (at + count) bytes, fits))))

-- and behind a whole word
pub spell_words : (bytes : List ℕ) (at power : ℕ) (front back : ℕ × ℕ) → WordAt bytes at front → WordAt bytes (at + 8) back → 8 ≤ front.0 → power ≡ 10 ^ back.0
    → at + 16 ≤ length bytes → Spell (take (8 + back.0) (drop at bytes)) (front.1 * power + back.1)
spell_words bytes at power front back a b whole is fits =
    let all : front.0 ≡ 8 = omega (arith, a.few) in
    let first : Spell (take 8 (drop at bytes)) front.1 = spell_word bytes at 8 front.1 (omega arith) (subst (λ n. Spell (take n (take 8 (drop at bytes))) front.1) all a.spell) in
    spell_behind bytes at 8 power front.1 back first b is (omega (arith, fits))

-- which is short
pub words_low : (bytes : List ℕ) (at power : ℕ) (front back : ℕ × ℕ) → WordAt bytes at front → WordAt bytes (at + 8) back → 8 ≤ front.0 → power ≡ 10 ^ back.0
    → at + 16 ≤ length bytes → front.1 * power + back.1 < 10 ^ 16
words_low bytes at power front back a b whole is fits =
    let few = b.few in
    spell_below (drop at bytes) (8 + back.0) 16 (front.1 * power + back.1) (spell_words bytes at power front back a b whole is fits) (omega arith)

-- ---- the least numbers of so many digits

-- n numbers from p on, each ten times the one before it
abbrev powers : ℕ → ℕ → List ℕ
powers p zero = []
powers p (suc n) = p ∷ powers (p * 10) n

power_at : (p n i : ℕ) → i < n → get_or (powers p n) i 0 ≡ p * 10 ^ i
power_at p zero i low = absurd (omega arith)
power_at p (suc n) zero low = omega arith
power_at p (suc n) (suc i) low = omega (arith, power_at (p * 10) n i (omega arith), ap (λ x. p * x) (pow-suc 10 i))

pub least_is : (digits : ℕ) → digits ≤ 18 → 2 ≤ digits → get_or (18446744073709551615 ∷ 0 ∷ powers 10 17) digits 0 ≡ 10 ^ (digits - 1)
least_is zero few some = absurd (omega arith)
least_is (suc zero) few some = absurd (omega arith)
least_is (suc (suc i)) few some =
    let back : suc i ≡ suc (suc i) - 1 = omega arith in
    power_at 10 17 i (omega arith) ∙ omega (arith, pow-suc 10 i, ap (λ k. 10 ^ k) back)

-- a number that is not below the least one of its digits begins with another digit than 0, or has one digit
pub not_padded : (bytes : List ℕ) (count value : ℕ) → Spell (take count bytes) value → 1 ≤ count → count ≤ length bytes → (2 ≤ count → 10 ^ (count - 1) ≤ value)
    → (count ≡ 1) ⊎ (get_or bytes 0 0 ≡ 48 → ⊥)
not_padded [] count value h some fits least = absurd (omega (arith, some, fits))
not_padded (b ∷ bytes) zero value h some fits least = absurd (omega (arith, some))
not_padded (b ∷ bytes) (suc zero) value h some fits least = inl refl
not_padded (b ∷ bytes) (suc (suc n)) value h some fits least = inr (λ zero_is. (
    let rest = take (suc n) bytes in
    let long : length (take (suc n) bytes) ≡ suc n = length-take-le (suc n) bytes (omega (arith, fits)) in
    let start : 0 * 10 + (b - 48) ≡ 0 = omega (arith, zero_is) in
    let value_is : value ≡ spelled 0 (digit_values rest) = h.is ∙ ap (λ m. spelled m (digit_values rest)) start in
    let low : spelled 0 (digit_values rest) + 1 ≤ (0 + 1) * 10 ^ suc n = subst (λ k. spelled 0 (digit_values rest) + 1 ≤ (0 + 1) * 10 ^ k) long (spelled_low 0 rest h.digits.2) in
    let back : suc (suc n) - 1 ≡ suc n = omega arith in
    let most : 10 ^ suc n ≤ value = subst (λ k. 10 ^ k ≤ value) back (least (omega arith)) in
    absurd (omega (arith, value_is, low, most))))

-- no number has no digits
pub some_digits : (bytes : List ℕ) (count value least : ℕ) → Spell (take count bytes) value → least ≤ value → (count ≡ 0 → 10 ^ 18 ≤ least) → 1 ≤ count
some_digits bytes zero value least h low none = absurd (omega (arith, h.is, low, none refl))
some_digits bytes (suc n) value least h low none = omega arith

-- the byte is this digit
pub record IsDigit (bytes : List ℕ) (at digit : ℕ) : Type 0 where
  pub within : at < length bytes
  pub is : get_or bytes at 0 ≡ 48 + digit
  pub low : digit ≤ 9

-- the digit so many bytes behind
digit_behind : (bytes : List ℕ) (at i digit : ℕ) → IsDigit bytes (at + i) digit → IsDigit (drop at bytes) i digit
digit_behind bytes at i digit d =
    let within = d.within in
    record {
      within = omega (arith, length-drop at bytes);
      is = get_or-drop at bytes i 0 ∙ d.is;
      low = d.low;
    }

spell_next : (bytes : List ℕ) (count value digit : ℕ) → IsDigit bytes count digit → Spell (take count bytes) value → Spell (take (count + 1) bytes) (value * 10 + digit)
spell_next bytes count value digit d h = spell_more bytes count value digit d.within d.is d.low h

spell_first : (bytes : List ℕ) (digit : ℕ) → IsDigit bytes 0 digit → Spell (take 1 bytes) digit
spell_first bytes digit d =
    let one : 0 * 10 + digit ≡ digit = omega arith in
    subst (λ v. Spell (take 1 bytes) v) one (spell_next bytes 0 0 digit d (record { digits = tt; is = refl }))

first_some : (bytes : List ℕ) (digit : ℕ) → IsDigit bytes 0 digit → 1 ≤ digit → get_or bytes 0 0 ≡ 48 → ⊥
first_some bytes digit d some e = absurd (omega (arith, d.is, e, some))

pub three_digits : (bytes : List ℕ) (at first second third : ℕ) → IsDigit bytes (at + 0) first → 1 ≤ first → IsDigit bytes (at + 1) second
    → IsDigit bytes (at + 2) third → SpellsOn None (take 3 (drop at bytes)) (Some ((first * 10 + second) * 10 + third))
three_digits bytes at first second third a some b c =
    let rest = drop at bytes in
    let d = digit_behind bytes at 0 first a in
    let e = digit_behind bytes at 1 second b in
    let f = digit_behind bytes at 2 third c in
    let within = f.within in
    let two = spell_next rest 1 first second e (spell_first rest first d) in
    spells_whole rest 3 ((first * 10 + second) * 10 + third) (spell_next rest 2 (first * 10 + second) third f two) (omega arith) (omega arith) (omega arith)
    (inr (first_some rest first d some))
