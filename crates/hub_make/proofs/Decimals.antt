-- A number in decimal is a token, and it is read as the number.
use Rattle.std.proofs.Common.{◌≡◌, ℕ, zero, suc, ◌+◌, ◌*◌, ◌/◌, ◌^◌, ◌<◌, ◌≤◌, Bool, true, false, ◌||◌, List, [], ◌∷◌, ◌++◌, length, get_or, take, drop, min, nat_le, nat_lt, Some, pos, decimal, codes, refl, sym, ap, subst, ◌∙◌, append-nil, take_all, le_refl, cond, arith}
use Rattle.std.specs.List.{list_any, list_all, before_first, after_first, position_or_len}
use Rattle.std.specs.Char.{is_ascii_digit, digit_value}
use Rattle.std.specs.Str.Parse.{AllDigits, digits_value}
use Rattle.std.proofs.lemmas.Bool.{and_from, cond-true, cond-false, lt-ltb, le-leb, ne_eqb}
use Rattle.std.proofs.lemmas.Fmt.{decimal_is_IsNumeral_wide, length-decimal-le_wide}
use Rattle.std.proofs.lemmas.Str.Parse.{digit_from_value}
use Rattle.std.proofs.lemmas.List.{drop_all}
use Rattle.std.proofs.lemmas.List.Sums.{position_or_len_is}
use Rattle.text_spec.specs.Tokens.{is_separator}
use Rattle.text_spec.specs.Numbers.{is_sign, is_point, is_exponent_mark, is_negative, unsigned, mantissa, whole_part, fraction, exponent, digits_of_both, are_digits, has_good_exponent, is_decimal, exponent_up, exponent_down, largest_magnitude, magnitude, decimal_value}

-- a word that stands as a token of its own, and is short
pub record IsToken (word : List ℕ) : Type 0 where
  pub some : 0 < length word
  pub inside : list_any is_separator word ≡ false
  pub short : length word ≤ 40

-- a byte that is a digit
abbrev IsDigit : ℕ → Type 0
IsDigit c = (48 ≤ c) × (c ≤ 57)

digit_of : (c : ℕ) → digit_value c < 10 → IsDigit c
digit_of c h = let d = digit_from_value c h in (d.0, d.1)

-- a test that no digit passes is failed by all digits
none_passes : (p : ℕ → Bool) (ds : List ℕ) → ((c : ℕ) → IsDigit c → p c ≡ false) → AllDigits 10 ds → list_any p ds ≡ false
none_passes p [] h d = refl
none_passes p (c ∷ cs) h d = ap (λ b. b || list_any p cs) (h c (digit_of c d.0)) ∙ none_passes p cs h d.1

none_passes_at : (p : ℕ → Bool) (ds : List ℕ) (k : ℕ) → ((c : ℕ) → IsDigit c → p c ≡ false) → AllDigits 10 ds → k < length ds → p (get_or ds k 0) ≡ false
none_passes_at p [] k h d l = absurd (omega arith)
none_passes_at p (c ∷ cs) zero h d l = h c (digit_of c d.0)
none_passes_at p (c ∷ cs) (suc k) h d l = none_passes_at p cs k h d.1 (omega arith)

first_past : (p : ℕ → Bool) (ds : List ℕ) → ((c : ℕ) → IsDigit c → p c ≡ false) → AllDigits 10 ds → position_or_len p ds ≡ length ds
first_past p ds h d = position_or_len_is p ds (length ds) 0 (le_refl (length ds)) (λ k l. none_passes_at p ds k h d l) (λ l. absurd (omega arith))

all_before : (p : ℕ → Bool) (ds : List ℕ) → ((c : ℕ) → IsDigit c → p c ≡ false) → AllDigits 10 ds → before_first p ds ≡ ds
all_before p ds h d = ap (λ k. take k ds) (first_past p ds h d) ∙ take_all (length ds) ds (le_refl (length ds))

none_after : (p : ℕ → Bool) (ds : List ℕ) → ((c : ℕ) → IsDigit c → p c ≡ false) → AllDigits 10 ds → after_first p ds ≡ []
none_after p ds h d = ap (λ k. drop (k + 1) ds) (first_past p ds h d) ∙ drop_all (length ds + 1) ds (omega arith)

no_separator : (c : ℕ) → IsDigit c → is_separator c ≡ false
unfolding is_separator
no_separator c d =
    rw (ne_eqb c 32 (λ e. omega arith), ne_eqb c 9 (λ e. omega arith), ne_eqb c 13 (λ e. omega arith), ne_eqb c 10 (λ e. omega arith), ne_eqb c 44 (λ e. omega arith), ne_eqb c 59 (λ e. omega arith)) refl

no_exponent_mark : (c : ℕ) → IsDigit c → is_exponent_mark c ≡ false
no_exponent_mark c d = rw (ne_eqb c 101 (λ e. omega arith), ne_eqb c 69 (λ e. omega arith)) refl

no_point : (c : ℕ) → IsDigit c → is_point c ≡ false
no_point c d = ne_eqb c 46 (λ e. omega arith)

no_sign : (c : ℕ) → IsDigit c → is_sign c ≡ false
no_sign c d = rw (ne_eqb c 43 (λ e. omega arith), ne_eqb c 45 (λ e. omega arith)) refl

all_pass : (ds : List ℕ) → AllDigits 10 ds → list_all is_ascii_digit ds ≡ true
all_pass [] d = refl
all_pass (c ∷ cs) d = and_from (is_ascii_digit c) (list_all is_ascii_digit cs) (passes c (digit_of c d.0)) (all_pass cs d.1)
  where
    passes : (c : ℕ) → IsDigit c → is_ascii_digit c ≡ true
    passes c d = grind arith

unsigned_is : (ds : List ℕ) → AllDigits 10 ds → unsigned ds ≡ ds
unsigned_is [] d = refl
unsigned_is (c ∷ cs) d = cond-false (is_sign c) _ _ (no_sign c (digit_of c d.0))

not_negative : (ds : List ℕ) → AllDigits 10 ds → is_negative ds ≡ false
not_negative [] d = refl
not_negative (c ∷ cs) d = let k = digit_of c d.0 in ne_eqb c 45 (λ e. omega arith)

-- by how many tens an exponent multiplies and divides
abbrev ups : List ℕ → ℕ
ups bytes = cond (is_negative bytes) 0 (digits_value 10 (unsigned bytes))

abbrev downs : List ℕ → ℕ
downs bytes = cond (is_negative bytes) (digits_value 10 (unsigned bytes)) 0

no_tens : (v places up down : ℕ) → v * 10 ^ places ≤ 10 ^ 30 → up ≡ 0 → down ≡ 0 → min largest_magnitude (v * 10 ^ (places + up) / 10 ^ down) ≡ v * 10 ^ places
no_tens v places up down small e f =
    let same : places + up ≡ places = omega arith in
    let one : v * 10 ^ places / 1 ≡ v * 10 ^ places = omega arith in
    (λ i. min largest_magnitude (v * 10 ^ same i / 10 ^ f i)) ∙ ap (min largest_magnitude) one ∙ omega arith

-- digits are read as the number that they write
digits_read : (places : ℕ) (ds : List ℕ) → AllDigits 10 ds → 0 < length ds → length ds ≤ 40 → digits_value 10 ds * 10 ^ places ≤ 10 ^ 30
    → decimal_value places ds ≡ Some (pos (digits_value 10 ds * 10 ^ places))
unfolding decimal_value
digits_read places ds d some few small =
    let whole : unsigned ds ≡ ds = unsigned_is ds d in
    let front : mantissa ds ≡ ds = ap (before_first is_exponent_mark) whole ∙ all_before is_exponent_mark ds no_exponent_mark d in
    let units : whole_part ds ≡ ds = ap (before_first is_point) front ∙ all_before is_point ds no_point d in
    let tenths : fraction ds ≡ [] = ap (after_first is_point) front ∙ none_after is_point ds no_point d in
    let tens : exponent ds ≡ [] = ap (after_first is_exponent_mark) whole ∙ none_after is_exponent_mark ds no_exponent_mark d in
    let both : digits_of_both ds ≡ ds = (λ i. units i ++ tenths i) ∙ append-nil ds in
    let good : has_good_exponent ds ≡ true =
    cond-false (list_any is_exponent_mark (unsigned ds)) _ _ (ap (list_any is_exponent_mark) whole ∙ none_passes is_exponent_mark ds no_exponent_mark d) in
    let digits : are_digits (digits_of_both ds) ≡ true =
    ap are_digits both ∙ and_from (nat_lt 0 (length ds)) _ (lt-ltb 0 (length ds) some) (all_pass ds d) in
    let is : is_decimal ds ≡ true =
    and_from (nat_le (length ds) 40) _ (le-leb (length ds) 40 few) (and_from (are_digits (digits_of_both ds)) _ digits good) in
    let down : length (fraction ds) + exponent_down ds ≡ 0 = (λ i. length (tenths i) + downs (tens i)) in
    let value : magnitude places ds ≡ digits_value 10 ds * 10 ^ places =
    ap (λ bs. min largest_magnitude (digits_value 10 bs * 10 ^ (places + exponent_up ds) / 10 ^ (length (fraction ds) + exponent_down ds))) both
    ∙ no_tens (digits_value 10 ds) places (exponent_up ds) (length (fraction ds) + exponent_down ds) small (ap ups tens) down in
    cond-true (is_decimal ds) _ _ is ∙ ap Some (cond-false (is_negative ds) _ _ (not_negative ds d) ∙ ap pos value)

-- a number of at most 20 digits
pub decimal_read : (places n : ℕ) → n < 10 ^ 20 → n * 10 ^ places ≤ 10 ^ 30 → decimal_value places (decimal n) ≡ Some (pos (n * 10 ^ places))
decimal_read places n short small =
    let is = decimal_is_IsNumeral_wide n (omega arith) in
    let few : length (decimal n) ≤ 20 = length-decimal-le_wide 20 n (omega arith) short (omega arith) in
    digits_read places (decimal n) is.0.1 is.0.0 (omega arith) (subst (λ v. v * 10 ^ places ≤ 10 ^ 30) (sym is.1) small)
    ∙ ap (λ v. Some (pos (v * 10 ^ places))) is.1

pub decimal_token : (n : ℕ) → n < 10 ^ 20 → IsToken (decimal n)
decimal_token n short =
    let is = decimal_is_IsNumeral_wide n (omega arith) in
    let few : length (decimal n) ≤ 20 = length-decimal-le_wide 20 n (omega arith) short (omega arith) in
    record { some = is.0.0; inside = none_passes is_separator (decimal n) no_separator is.0.1; short = omega arith }

-- the factor of trunk
pub trunk_token : IsToken (codes "0.75")
unfolding is_separator
trunk_token = record { some = omega arith; inside = refl; short = omega arith }

pub trunk_read : decimal_value 3 (codes "0.75") ≡ Some (pos 750)
unfolding decimal_value
trunk_read = refl

-- a number in decimal begins with a digit
pub begins_with_digit : (n : ℕ) → n < 10 ^ 20 → (first : ℕ) × (rest : List ℕ) × (decimal n ≡ first ∷ rest) × (first ≤ 57)
begins_with_digit n short = let is = decimal_is_IsNumeral_wide n (omega arith) in begins (decimal n) is.0.0 is.0.1
  where
    begins : (ds : List ℕ) → 0 < length ds → AllDigits 10 ds → (first : ℕ) × (rest : List ℕ) × (ds ≡ first ∷ rest) × (first ≤ 57)
    begins [] some d = absurd (omega arith)
    begins (c ∷ cs) some d = (c, cs, refl, (digit_of c d.0).1)
