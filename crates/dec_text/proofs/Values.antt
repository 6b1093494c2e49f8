-- What digits write, read from the left with a cap, cut off at the right, and times a power of ten.
use Rattle.std.proofs.Common.{◌≡◌, ℕ, zero, suc, ◌+◌, ◌-◌, ◌*◌, ◌/◌, ◌%◌, ◌^◌, ◌<◌, ◌≤◌, ◌⊎◌, min, Bool, true, List, [], ◌∷◌, ◌++◌, length, get_or, take, drop, refl, sym, ◌∙◌, ap, inl, inr, arith, ap₂, lit<, lit≤, pow-suc, pow-add, mul_assoc, mul-div_cancel, mul-le-mul_right, le-mul_of_pos_right, one-mul, lt_of_lt_of_le, le_refl, le_trans, length-drop, take-append-drop, take_all}
use Rattle.std.specs.List.{list_all}
use Rattle.std.specs.Char.{is_ascii_digit, digit_value}
use Rattle.std.specs.Str.Parse.{digits_value, digits_value_after}
use Rattle.std.proofs.lemmas.Bool.{cases_lt, and_parts, and_from}
use Rattle.std.proofs.lemmas.List.{at_drop_more, at_drop_all, take_min}
use Rattle.std.proofs.lemmas.List.Folds.{list_all-append}
use Rattle.std.proofs.lemmas.Nat.{div-mul-add}
use Rattle.std.proofs.Math.Nat.{mod-eq_of_lt, pow-le-pow_right, div-eq_of_lt, mul-div-mul_right}

after_ge : (n : ℕ) (ds : List ℕ) → n ≤ digits_value_after 10 n ds
after_ge n [] = le_refl n
after_ge n (d ∷ ds) = after_ge_step n (digit_value d) ds (after_ge (n * 10 + digit_value d) ds)
  where
    after_ge_step : (n d : ℕ) (ds : List ℕ) → n * 10 + d ≤ digits_value_after 10 (n * 10 + d) ds → n ≤ digits_value_after 10 (n * 10 + d) ds
    after_ge_step n d ds h = omega arith

capped_at : (most n : ℕ) (ds : List ℕ) → (n ≤ most) ⊎ (most ≤ n) → min most (digits_value_after 10 (min n most) ds) ≡ min most (digits_value_after 10 n ds)
capped_at most n ds (inl below) = let same : min n most ≡ n = omega arith in ap (λ k. min most (digits_value_after 10 k ds)) same
capped_at most n ds (inr above) =
    let same : min n most ≡ most = omega arith in
    ap (λ k. min most (digits_value_after 10 k ds)) same ∙ omega (arith, after_ge most ds, after_ge n ds)

-- a cap on the number so far changes no capped result
pub capped_first : (most n : ℕ) (ds : List ℕ) → min most (digits_value_after 10 (min n most) ds) ≡ min most (digits_value_after 10 n ds)
capped_first most n ds = capped_at most n ds (elim (cases_lt n most) [ inl l ↦ inl (omega arith) | inr l ↦ inr l ])

-- one more digit
pub capped_more : (most v n i : ℕ) (ds : List ℕ) → i < length ds → n ≡ min (10 * v + digit_value (get_or ds i 0)) most
    → min most (digits_value_after 10 n (drop (i + 1) ds)) ≡ min most (digits_value_after 10 v (drop i ds))
capped_more most v n i ds l e =
    let swap : min (10 * v + digit_value (get_or ds i 0)) most ≡ min (v * 10 + digit_value (get_or ds i 0)) most = ap (λ k. min (k + digit_value (get_or ds i 0)) most) (swapped v) in
    ap (λ k. min most (digits_value_after 10 k (drop (i + 1) ds))) (e ∙ swap)
    ∙ (capped_first most (v * 10 + digit_value (get_or ds i 0)) (drop (i + 1) ds)
    ∙ sym (at_drop_more (λ bs. min most (digits_value_after 10 v bs)) ds i 0 l))
  where
    swapped : (v : ℕ) → 10 * v ≡ v * 10
    swapped v = omega arith

-- the end of the digits
pub capped_all : (most v i : ℕ) (ds : List ℕ) → length ds ≤ i → min most (digits_value_after 10 v (drop i ds)) ≡ min most v
capped_all most v i ds l = at_drop_all (λ bs. min most (digits_value_after 10 v bs)) ds i l

pub passes_more : (p : ℕ → Bool) (i : ℕ) (ds : List ℕ) → i < length ds → list_all p (drop i ds) ≡ true → (p (get_or ds i 0) ≡ true) × (list_all p (drop (i + 1) ds) ≡ true)
passes_more p i ds l h = and_parts (p (get_or ds i 0)) (list_all p (drop (i + 1) ds)) (sym (at_drop_more (list_all p) ds i 0 l) ∙ h)

-- ten to a power is above 0, and grows
pub ten_pos : (k : ℕ) → 0 < 10 ^ k
ten_pos k = le_trans (lit≤ tt) (pow-le-pow_right {n = 10} (lit< tt) {i = 0} {j = k} (omega arith))

pub ten_mono : (i j : ℕ) → i ≤ j → 10 ^ i ≤ 10 ^ j
ten_mono i j l = pow-le-pow_right {n = 10} (lit< tt) l

digit_small : (c : ℕ) → is_ascii_digit c ≡ true → digit_value c < 10
digit_small c h = grind arith

after_append : (n : ℕ) (xs ys : List ℕ) → digits_value_after 10 n (xs ++ ys) ≡ digits_value_after 10 (digits_value_after 10 n xs) ys
after_append n [] ys = refl
after_append n (x ∷ xs) ys = after_append (n * 10 + digit_value x) xs ys

-- the digits in front count for as many tens as digits follow
after_is : (n : ℕ) (ds : List ℕ) → digits_value_after 10 n ds ≡ n * 10 ^ length ds + digits_value 10 ds
after_is n [] = omega arith
after_is n (d ∷ ds) = after_is_step n (digit_value d) (10 ^ length ds) (10 ^ suc (length ds)) _ _ _ (pow-suc 10 (length ds)) (after_is (n * 10 + digit_value d) ds) (after_is (0 * 10 + digit_value d) ds)
  where
    after_is_step : (n d t u x y z : ℕ) → u ≡ t * 10 → x ≡ (n * 10 + d) * t + z → y ≡ (0 * 10 + d) * t + z → x ≡ n * u + y
    after_is_step n d t u x y z e f g = let tens : n * u ≡ n * (t * 10) = ap (λ k. n * k) e in omega arith

value_lt : (ds : List ℕ) → list_all is_ascii_digit ds ≡ true → digits_value 10 ds < 10 ^ length ds
value_lt [] h = lit< tt
value_lt (d ∷ ds) h =
    let parts = and_parts (is_ascii_digit d) (list_all is_ascii_digit ds) h in
    value_lt_step (digit_value d) (10 ^ length ds) (10 ^ suc (length ds)) _ _ (pow-suc 10 (length ds)) (digit_small d parts.0) (after_is (0 * 10 + digit_value d) ds) (value_lt ds parts.1)
  where
    value_lt_step : (d t u x z : ℕ) → u ≡ t * 10 → d < 10 → x ≡ (0 * 10 + d) * t + z → z < t → x < u
    value_lt_step d t u x z e small f l =
        let most : (d + 1) * t ≤ 10 * t = mul-le-mul_right t (omega arith) in
        omega arith

all_append : (xs ys : List ℕ) → list_all is_ascii_digit xs ≡ true → list_all is_ascii_digit ys ≡ true → list_all is_ascii_digit (xs ++ ys) ≡ true
all_append xs ys h k = list_all-append is_ascii_digit xs ys ∙ and_from (list_all is_ascii_digit xs) (list_all is_ascii_digit ys) h k

all_parts : (n : ℕ) (ds : List ℕ) → list_all is_ascii_digit ds ≡ true → (list_all is_ascii_digit (take n ds) ≡ true) × (list_all is_ascii_digit (drop n ds) ≡ true)
all_parts n ds h = and_parts (list_all is_ascii_digit (take n ds)) (list_all is_ascii_digit (drop n ds))
    (sym (list_all-append is_ascii_digit (take n ds) (drop n ds)) ∙ (ap (list_all is_ascii_digit) (take-append-drop n ds) ∙ h))

pub all_take : (n : ℕ) (ds : List ℕ) → list_all is_ascii_digit ds ≡ true → list_all is_ascii_digit (take n ds) ≡ true
all_take n ds h = (all_parts n ds h).0

-- a division by a power of ten drops digits
cut_append : (xs ys : List ℕ) → list_all is_ascii_digit ys ≡ true → digits_value 10 (xs ++ ys) / 10 ^ length ys ≡ digits_value 10 xs
cut_append xs ys h =
    ap (λ n. n / 10 ^ length ys) (after_append 0 xs ys ∙ after_is (digits_value 10 xs) ys)
    ∙ div-mul-add (digits_value 10 xs) (10 ^ length ys) (digits_value 10 ys) (value_lt ys h)

cut_at : (ds : List ℕ) (k : ℕ) → list_all is_ascii_digit ds ≡ true → (length ds < k) ⊎ (k ≤ length ds) → digits_value 10 ds / 10 ^ k ≡ digits_value 10 (take (length ds - k) ds)
cut_at ds k h (inl short) =
    let small : digits_value 10 ds < 10 ^ k = lt_of_lt_of_le (value_lt ds h) (ten_mono (length ds) k (omega arith)) in
    let none : length ds - k ≡ 0 = omega arith in
    div-eq_of_lt small ∙ sym (ap (λ n. digits_value 10 (take n ds)) none)
cut_at ds k h (inr long) =
    let behind : length (drop (length ds - k) ds) ≡ k = omega (arith, length-drop (length ds - k) ds) in
    sym (ap (λ xs. digits_value 10 xs / 10 ^ k) (take-append-drop (length ds - k) ds))
    ∙ (ap (λ n. digits_value 10 (take (length ds - k) ds ++ drop (length ds - k) ds) / 10 ^ n) (sym behind)
    ∙ cut_append (take (length ds - k) ds) (drop (length ds - k) ds) (all_parts (length ds - k) ds h).1)

pub cut : (ds : List ℕ) (k : ℕ) → list_all is_ascii_digit ds ≡ true → digits_value 10 ds / 10 ^ k ≡ digits_value 10 (take (length ds - k) ds)
cut ds k h = cut_at ds k h (cases_lt (length ds) k)

-- tens above and below cancel
pub tens_up : (n up down : ℕ) → down ≤ up → n * 10 ^ up / 10 ^ down ≡ n * 10 ^ (up - down)
tens_up n up down l =
    let split : up - down + down ≡ up = omega arith in
    sym (ap (λ k. n * 10 ^ k / 10 ^ down) split)
    ∙ (ap (λ m. n * m / 10 ^ down) (pow-add 10 (up - down) down)
    ∙ (ap (λ m. m / 10 ^ down) (sym (mul_assoc n (10 ^ (up - down)) (10 ^ down)))
    ∙ mul-div_cancel (n * 10 ^ (up - down)) (ten_pos down)))

pub tens_down : (n up down : ℕ) → up ≤ down → n * 10 ^ up / 10 ^ down ≡ n / 10 ^ (down - up)
tens_down n up down l =
    let split : down - up + up ≡ down = omega arith in
    sym (ap (λ k. n * 10 ^ up / 10 ^ k) split)
    ∙ (ap (λ m. n * 10 ^ up / m) (pow-add 10 (down - up) up)
    ∙ mul-div-mul_right n (10 ^ (down - up)) (ten_pos up))

-- a cap before a product changes no capped product
capped_product_at : (most n t : ℕ) → 0 < t → (n ≤ most) ⊎ (most ≤ n) → min most (min most n * t) ≡ min most (n * t)
capped_product_at most n t p (inl below) = let same : min most n ≡ n = omega arith in ap (λ k. min most (k * t)) same
capped_product_at most n t p (inr above) =
    let same : min most n ≡ most = omega arith in
    ap (λ k. min most (k * t)) same ∙ omega (arith, le-mul_of_pos_right most p, mul-le-mul_right t above)

pub capped_product : (most n k : ℕ) → min most (min most n * 10 ^ k) ≡ min most (n * 10 ^ k)
capped_product most n k = capped_product_at most n (10 ^ k) (ten_pos k) (elim (cases_lt n most) [ inl l ↦ inl (omega arith) | inr l ↦ inr l ])

-- a product with more tens than the cap has
pub product_above : (most n j k : ℕ) → 0 < n → most ≡ 10 ^ j → j ≤ k → min most (n * 10 ^ k) ≡ most
product_above most n j k p e l =
    omega (arith, ten_mono j k l, mul-le-mul_right (10 ^ k) (one_le n p), one-mul (10 ^ k))
  where
    one_le : (n : ℕ) → 0 < n → 1 ≤ n
    one_le n p = omega arith

take_both : (kept : ℕ) (xs ys : List ℕ) → take kept (xs ++ ys) ≡ take kept xs ++ take (kept - length xs) ys
take_both zero xs ys = let none : 0 - length xs ≡ 0 = omega arith in ap (λ n. take n ys) (sym none)
take_both (suc kept) [] ys = let all : suc kept ≡ suc kept - 0 = omega arith in ap (λ n. take n ys) all
take_both (suc kept) (x ∷ xs) ys = ap (λ l. x ∷ l) (take_both kept xs ys ∙ (let left : kept - length xs ≡ suc kept - suc (length xs) = omega arith in ap (λ n. take kept xs ++ take n ys) left))

-- a prefix of two rows of digits, read one after the other
pub front_of_both : (most kept a b v : ℕ) (xs ys : List ℕ) → a ≡ min kept (length xs) → b ≡ min (kept - a) (length ys) → v ≡ min most (digits_value_after 10 0 (take a xs))
    → min most (digits_value_after 10 v (take b ys)) ≡ min most (digits_value 10 (take kept (xs ++ ys)))
front_of_both most kept a b v xs ys ea eb ev =
    let turn : min most (digits_value_after 10 0 (take a xs)) ≡ min (digits_value_after 10 0 (take a xs)) most = omega arith in
    let whole : take a xs ≡ take kept xs = ap (λ n. take n xs) ea ∙ take_min kept xs in
    let left : min (kept - a) (length ys) ≡ min (kept - length xs) (length ys) = omega arith in
    let rest : take b ys ≡ take (kept - length xs) ys = ap (λ n. take n ys) (eb ∙ left) ∙ take_min (kept - length xs) ys in
    ap (λ n. min most (digits_value_after 10 n (take b ys))) (ev ∙ turn)
    ∙ (capped_first most (digits_value_after 10 0 (take a xs)) (take b ys)
    ∙ (sym (ap (min most) (after_append 0 (take a xs) (take b ys)))
    ∙ ap (λ ds. min most (digits_value 10 ds)) (ap₂ (λ f r. f ++ r) whole rest ∙ sym (take_both kept xs ys))))

pub scaled_up : (most up down x y n : ℕ) (ds : List ℕ) → down ≤ up → n ≡ length ds → x ≡ min most (digits_value 10 (take n ds)) → y ≡ min most (x * 10 ^ (up - down))
    → y ≡ min most (digits_value 10 ds * 10 ^ up / 10 ^ down)
scaled_up most up down x y n ds l len ex ey =
    let all : take n ds ≡ ds = take_all n ds (omega arith) in
    ey ∙ (ap (λ k. min most (k * 10 ^ (up - down))) (ex ∙ ap (λ bs. min most (digits_value 10 bs)) all)
    ∙ (capped_product most (digits_value 10 ds) (up - down)
    ∙ sym (ap (min most) (tens_up (digits_value 10 ds) up down l))))

pub scaled_down : (most up down x kept : ℕ) (ds : List ℕ) → up < down → list_all is_ascii_digit ds ≡ true → kept ≡ length ds - (down - up) → x ≡ min most (digits_value 10 (take kept ds))
    → x ≡ min most (digits_value 10 ds * 10 ^ up / 10 ^ down)
scaled_down most up down x kept ds l digits len ex =
    ex ∙ (ap (λ n. min most (digits_value 10 (take n ds))) len
    ∙ sym (ap (min most) (tens_down (digits_value 10 ds) up down (omega arith) ∙ cut ds (down - up) digits)))

pub both_digits : (xs ys : List ℕ) → list_all is_ascii_digit xs ≡ true → list_all is_ascii_digit ys ≡ true → list_all is_ascii_digit (xs ++ ys) ≡ true
both_digits xs ys h k = all_append xs ys h k

-- up to three digits are no number above 999
pub three_digits : (most x : ℕ) (ds : List ℕ) → list_all is_ascii_digit ds ≡ true → length ds ≤ 3 → 1000 ≤ most → x ≡ min most (digits_value 10 ds) → (x < 1000) × (x ≡ digits_value 10 ds)
three_digits most x ds h short large e =
    let small : digits_value 10 ds < 1000 = lt_of_lt_of_le (value_lt ds h) (ten_mono (length ds) 3 short) in
    (omega arith, omega arith)

-- a number of 128 bits is below ten to any power above 38
below_ten : (n k : ℕ) → n < 2 ^ 128 → 38 < k → n < 10 ^ k
below_ten n k l far = lt_of_lt_of_le (lt_of_lt_of_le l (lit≤ tt)) (ten_mono 39 k (omega arith))

pub no_whole : (n k : ℕ) → n < 2 ^ 128 → 38 < k → 0 ≡ n / 10 ^ k
no_whole n k l far = sym (div-eq_of_lt (below_ten n k l far))

pub all_rest : (n k : ℕ) → n < 2 ^ 128 → 38 < k → n ≡ n % 10 ^ k
all_rest n k l far = sym (mod-eq_of_lt (below_ten n k l far))
