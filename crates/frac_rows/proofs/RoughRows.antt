-- Rough rows: what their sums of products tell of the numbers of the variables.
use Rattle.std.proofs.Common.{◌≡◌, ℕ, suc, ◌+◌, ◌-◌, ◌*◌, ◌^◌, ◌<◌, ◌≤◌, false, List, [], ◌∷◌, length, set, take, drop, sum, ℤ, pos, ◌+ℤ◌, ◌-ℤ◌, ◌*ℤ◌, ◌≤ℤ◌, int_lt, unsigned_abs, sym, ap, subst, ◌∙◌, arith}
use Rattle.std.specs.Int.{w32, int_wrap, is_negative}
use borrow.Author.Count.{below_more}
use Rattle.std.proofs.Math.Nat.{mul-le-mul, mul-le-mul_left}
use Rattle.std.proofs.lemmas.Int.{ints, unsigned_abs-mul, int_wrap_fits, fits_signed_from_abs}
use Rattle.std.proofs.lemmas.List.{get_or-take, get_or-drop, get_or-set_same, get_or-set_other}
use Rattle.std.proofs.lemmas.List.Sums.{sum_by-cons}
use Rattle.frac_rows.specs.Rows.{widest, number}
use Rattle.frac_rows.specs.Stored.{dot, reach, piece, standing, IsUnder, AreColumns}
use Rattle.frac_rows.specs.RoughRows.{IsMargin, IsRough, number_of, is_below, NoneBelow, AreTelling, NoneWide, AreTellingSizes}
use Rattle.frac_rows.proofs.Integers.{*ℤ-+ℤ, -ℤ-*ℤ, *ℤ_assoc, unsigned_abs-+ℤ-le, times-le}
use Rattle.frac_rows.proofs.SumsOfProducts.{dot_le_reach, wrapped_more, dot_all}
use Rattle.frac_rows.proofs.WholeRows.{length-standing, standing_at}

-- ---- sums

pub summed_more : (numbers : List ℤ) (variables first : ℕ) (rough sums new row : List ℤ) (k : ℕ) → k < length rough → row ≡ piece variables numbers k
    → length new ≡ length sums
    → ((l : ℕ) → l < length sums → number sums l ≡ int_wrap w32 (dot (take k rough) (take k (standing numbers variables (length rough) (first + l)))))
    → ((l : ℕ) → l < length sums → number new l ≡ int_wrap w32 (number sums l +ℤ number rough k *ℤ number row (first + l)))
    → (l : ℕ) → l < length new → number new l ≡ int_wrap w32 (dot (take (k + 1) rough) (take (k + 1) (standing numbers variables (length rough) (first + l))))
summed_more numbers variables first rough sums new row k low is long so_far added l within =
    let column = standing numbers variables (length rough) (first + l) in
    let at : number column k ≡ number row (first + l) =
    standing_at numbers variables (length rough) (first + l) k low ∙ ap (λ r. number r (first + l)) (sym is) in
    wrapped_more w32 rough column k (number sums l) (number new l) low (omega (arith, low, length-standing numbers variables (length rough) (first + l)))
    (so_far l (omega arith)) (added l (omega arith) ∙ ap (λ z. int_wrap w32 (number sums l +ℤ number rough k *ℤ z)) (sym at))

pub summed_all : (numbers : List ℤ) (variables j : ℕ) (rough : List ℤ) (k : ℕ) → length rough ≤ k
    → dot (take k rough) (take k (standing numbers variables (length rough) j)) ≡ dot rough (standing numbers variables (length rough) j)
summed_all numbers variables j rough k all =
    dot_all rough (standing numbers variables (length rough) j) k (omega (arith, all, length-standing numbers variables (length rough) j))

-- ---- what a sum tells

apart : (d x r y a b : ℤ) → (x *ℤ y +ℤ a) -ℤ d *ℤ (r *ℤ y +ℤ b) ≡ (x -ℤ d *ℤ r) *ℤ y +ℤ (a -ℤ d *ℤ b)
apart d x r y a b = omega (arith, ints, -ℤ-*ℤ x (d *ℤ r) y, *ℤ_assoc d r y, *ℤ-+ℤ d (r *ℤ y) b)

-- the sum of the products is about d times the rough one
pub dot_near : (d : ℕ) (row rough column : List ℤ) (tops : List ℕ) → length rough ≤ length row → length rough ≡ length tops → length column ≡ length tops
    → IsUnder column tops → ((k : ℕ) → k < length rough → unsigned_abs (number row k -ℤ pos d *ℤ number rough k) ≤ d)
    → unsigned_abs (dot row column -ℤ pos d *ℤ dot rough column) ≤ d * sum tops
dot_near d [] [] column tops more one_each long under near = omega (arith, ints)
dot_near d [] (r ∷ rough) column tops more one_each long under near = absurd (omega arith)
dot_near d (x ∷ row) [] [] tops more one_each long under near = omega (arith, ints)
dot_near d (x ∷ row) [] (y ∷ column) tops more one_each long under near = absurd (omega arith)
dot_near d (x ∷ row) (r ∷ rough) [] tops more one_each long under near = absurd (omega arith)
dot_near d (x ∷ row) (r ∷ rough) (y ∷ column) [] more one_each long under near = absurd (omega arith)
dot_near d (x ∷ row) (r ∷ rough) (y ∷ column) (t ∷ tops) more one_each long under near =
    let rest = dot_near d row rough column tops (omega arith) (omega arith) (omega arith) (λ k low. under (suc k) (omega arith))
    (λ k low. near (suc k) (omega arith)) in
    let first : unsigned_abs (x -ℤ pos d *ℤ r) * unsigned_abs y ≤ d * t = mul-le-mul (near 0 (omega arith)) (under 0 (omega arith)) in
    rw (apart (pos d) x r y (dot row column) (dot rough column))
    (omega (
      arith,
      unsigned_abs-+ℤ-le ((x -ℤ pos d *ℤ r) *ℤ y) (dot row column -ℤ pos d *ℤ dot rough column),
      unsigned_abs-mul (x -ℤ pos d *ℤ r) y,
      first,
      rest,
      ap (λ n. d * n) (sum_by-cons (λ n. n) t tops),
    ))

not_negative : (z : ℤ) → pos 0 ≤ℤ z → is_negative z ≡ false
not_negative z low = grind (arith, ints)

not_below : (d margin : ℕ) (exact rough : ℤ) → unsigned_abs (exact -ℤ pos d *ℤ rough) ≤ d * margin → pos margin ≤ℤ rough → is_negative exact ≡ false
not_below d margin exact rough near above =
    let more : (pos d *ℤ pos margin) ≤ℤ (pos d *ℤ rough) = times-le d (pos margin) rough above in
    not_negative exact (omega (arith, ints, more, near))

-- each sum times the step is about the variable's number
sums_near : (height variables : ℕ) (numbers : List ℤ) (tops : List ℕ) (row rough : List ℤ) (first : ℕ) (sums : List ℤ) (d : ℕ)
    → height ≡ length row - 1
    → AreColumns height variables numbers tops → length rough ≡ length tops → IsRough d row rough
    → reach rough tops < 2 ^ 31 → first + length sums ≤ variables
    → ((l : ℕ) → l < length sums → number sums l ≡ int_wrap w32 (dot rough (standing numbers variables (length rough) (first + l))))
    → (l : ℕ) → l < length sums → unsigned_abs (number_of variables numbers row (first + l) -ℤ pos d *ℤ number sums l) ≤ d * sum tops
sums_near height variables numbers tops row rough first sums d high are long is small within summed l low =
    let j = first + l in
    let column = standing numbers variables height j in
    let tall : length rough ≡ height = long ∙ are.topped.one_top_each in
    let column_long : length column ≡ length tops = length-standing numbers variables height j ∙ sym are.topped.one_top_each in
    let under = are.topped.under j (omega arith) in
    let same : dot rough (standing numbers variables (length rough) j) ≡ dot rough column =
    ap (λ h. dot rough (standing numbers variables h j)) tall in
    let size = dot_le_reach rough column tops column_long under in
    let whole : number sums l ≡ dot rough column =
    summed l low ∙ ap (int_wrap w32) same ∙ int_wrap_fits w32 (dot rough column) (fits_signed_from_abs w32 (dot rough column) (omega (arith, size, small))) in
    let near = dot_near d row rough column tops (omega (arith, tall, high)) long column_long under is.near in
    subst (λ h. unsigned_abs (dot row (standing numbers variables h j) -ℤ pos d *ℤ number sums l) ≤ d * sum tops) high
    (subst (λ z. unsigned_abs (dot row column -ℤ pos d *ℤ z) ≤ d * sum tops) (sym whole) near)

pub sums_tell : (height variables : ℕ) (numbers : List ℤ) (tops : List ℕ) (margin : ℤ) (row rough : List ℤ) (first : ℕ) (sums : List ℤ) (d : ℕ)
    → height ≡ length row - 1
    → AreColumns height variables numbers tops → IsMargin height tops margin → length rough ≡ length tops → IsRough d row rough
    → reach rough tops < 2 ^ 31 → first + length sums ≤ variables
    → ((l : ℕ) → l < length sums → number sums l ≡ int_wrap w32 (dot rough (standing numbers variables (length rough) (first + l))))
    → AreTelling variables numbers row margin first sums
sums_tell height variables numbers tops margin row rough first sums d high are is_margin long is small within summed = record {
  each = λ l low above.
      not_below d (sum tops) (number_of variables numbers row (first + l)) (number sums l)
      (sums_near height variables numbers tops row rough first sums d high are long is small within summed l low)
      (subst (λ z. z ≤ℤ number sums l) is_margin.is_sum above);
}

-- a number that is about so many times the step
not_wide_near : (d margin most : ℕ) (exact rough : ℤ) → unsigned_abs (exact -ℤ pos d *ℤ rough) ≤ d * margin → unsigned_abs rough + margin ≤ most
    → d * most ≤ widest → unsigned_abs exact ≤ widest
not_wide_near d margin most exact rough near few limit =
    let part = pos d *ℤ rough in
    let parts : exact ≡ (exact -ℤ part) +ℤ part = omega (arith, ints) in
    let size = unsigned_abs-+ℤ-le (exact -ℤ part) part in
    let times : unsigned_abs part ≡ d * unsigned_abs rough = unsigned_abs-mul (pos d) rough in
    let all : d * (unsigned_abs rough + margin) ≤ d * most = mul-le-mul_left d few in
    omega (arith, ap unsigned_abs parts, size, times, all, near, limit)

pub sums_tell_sizes : (height variables : ℕ) (numbers : List ℤ) (tops : List ℕ) (margin : ℤ) (row rough : List ℤ) (first : ℕ) (sums : List ℤ) (d most n : ℕ)
    → height ≡ length row - 1
    → AreColumns height variables numbers tops → IsMargin height tops margin → length rough ≡ length tops → IsRough d row rough
    → reach rough tops < 2 ^ 31 → first + length sums ≤ variables
    → ((l : ℕ) → l < length sums → number sums l ≡ int_wrap w32 (dot rough (standing numbers variables (length rough) (first + l))))
    → d * most ≤ widest → n ≡ unsigned_abs margin → AreTellingSizes variables numbers row n most first sums
sums_tell_sizes height variables numbers tops margin row rough first sums d most n high are is_margin long is small within summed limit size = record {
  each = λ l low few.
      let sized : n ≡ sum tops = size ∙ ap unsigned_abs is_margin.is_sum in
      not_wide_near d (sum tops) most (number_of variables numbers row (first + l)) (number sums l)
      (sums_near height variables numbers tops row rough first sums d high are long is small within summed l low)
      (omega (arith, few, sized)) limit;
}

-- ---- no number that is too great

pub sizes_at : (variables : ℕ) (numbers row : List ℤ) (margin most first : ℕ) (sums : List ℤ) (j : ℕ) → AreTellingSizes variables numbers row margin most first sums → first ≤ j
    → j - first < length sums → unsigned_abs (number sums (j - first)) + margin ≤ most → unsigned_abs (number_of variables numbers row j) ≤ widest
sizes_at variables numbers row margin most first sums j telling low high few =
    let same : first + (j - first) ≡ j = omega arith in
    subst (λ n. unsigned_abs (number_of variables numbers row n) ≤ widest) same (telling.each (j - first) high few)

pub none_wide_told : (variables : ℕ) (numbers row : List ℤ) (margin most first last : ℕ) (sums : List ℤ) → AreTellingSizes variables numbers row margin most first sums → first + length sums ≡ last
    → ((l : ℕ) → l < length sums → unsigned_abs (number sums l) + margin ≤ most) → NoneWide variables numbers row first last
none_wide_told variables numbers row margin most first last sums telling whole few = record {
  each = λ j low high. sizes_at variables numbers row margin most first sums j telling low (omega arith) (few (j - first) (omega arith));
}

-- ---- the first number below 0

pub telling_at : (variables : ℕ) (numbers row : List ℤ) (margin : ℤ) (first : ℕ) (sums : List ℤ) (j : ℕ) → AreTelling variables numbers row margin first sums → first ≤ j
    → j - first < length sums → margin ≤ℤ number sums (j - first) → is_below variables numbers row j ≡ false
telling_at variables numbers row margin first sums j telling low high above =
    let same : first + (j - first) ≡ j = omega arith in
    subst (λ n. is_below variables numbers row n ≡ false) same (telling.each (j - first) high above)

pub none_told : (variables : ℕ) (numbers row : List ℤ) (margin : ℤ) (first last : ℕ) (sums : List ℤ) → AreTelling variables numbers row margin first sums → first + length sums ≡ last
    → ((l : ℕ) → l < length sums → margin ≤ℤ number sums l) → NoneBelow variables numbers row first last
none_told variables numbers row margin first last sums telling whole above = record {
  each = λ j low high. telling_at variables numbers row margin first sums j telling low (omega arith) (above (j - first) (omega arith));
}

pub none_more : (variables : ℕ) (numbers row : List ℤ) (first j : ℕ) → NoneBelow variables numbers row first j → is_below variables numbers row j ≡ false → NoneBelow variables numbers row first (j + 1)
none_more variables numbers row first j none here = record {
  each = λ k low high. below_more (λ i. first ≤ i → is_below variables numbers row i ≡ false) j (λ i less among. none.each i among less) (λ among. here) k high low;
}

-- a rough row, number by number
pub rough_more : (d : ℕ) (row rough : List ℤ) (i : ℕ) (r : ℤ) → i < length rough
    → ((k : ℕ) → k < i → unsigned_abs (number row k -ℤ pos d *ℤ number rough k) ≤ d) → unsigned_abs (number row i -ℤ pos d *ℤ r) ≤ d
    → (k : ℕ) → k < i + 1 → unsigned_abs (number row k -ℤ pos d *ℤ number (set rough i r) k) ≤ d
rough_more d row rough i r low before here =
    below_more (λ k. unsigned_abs (number row k -ℤ pos d *ℤ number (set rough i r) k) ≤ d) i
    (λ k less. subst (λ z. unsigned_abs (number row k -ℤ pos d *ℤ z) ≤ d) (sym (get_or-set_other rough i k r (pos 0) (omega arith))) (before k less))
    (subst (λ z. unsigned_abs (number row i -ℤ pos d *ℤ z) ≤ d) (sym (get_or-set_same rough i r (pos 0) low)) here)

pub at_least : (a b : ℤ) → int_lt a b ≡ false → b ≤ℤ a
at_least a b h = grind (arith, ints)

pub rough_within : (x p r z : ℤ) (d n : ℕ) → p ≡ pos d *ℤ r → z ≡ x -ℤ p → n ≡ unsigned_abs z → n ≤ d → unsigned_abs (x -ℤ pos d *ℤ r) ≤ d
rough_within x p r z d n product rest size most =
    let same : unsigned_abs (x -ℤ pos d *ℤ r) ≡ n = ap unsigned_abs (ap (λ y. x -ℤ y) (sym product) ∙ sym rest) ∙ sym size in
    omega (arith, same, most)

-- ---- products that are added

pub block_at : (row : List ℤ) (first l : ℕ) → l < 32 → number (take 32 (drop first row)) l ≡ number row (first + l)
block_at row first l low = get_or-take 32 (drop first row) l (pos 0) low ∙ get_or-drop first row l (pos 0)

pub products_done : (old sums row : List ℤ) (first i : ℕ) (factor z : ℤ) → i < length sums
    → ((l : ℕ) → l < i → number sums l ≡ int_wrap w32 (number old l +ℤ factor *ℤ number row (first + l)))
    → number sums i ≡ number old i → z ≡ int_wrap w32 (number sums i +ℤ factor *ℤ number row (first + i))
    → (l : ℕ) → l < i + 1 → number (set sums i z) l ≡ int_wrap w32 (number old l +ℤ factor *ℤ number row (first + l))
products_done old sums row first i factor z low done same is =
    below_more (λ l. number (set sums i z) l ≡ int_wrap w32 (number old l +ℤ factor *ℤ number row (first + l))) i
    (λ l less. get_or-set_other sums i l z (pos 0) (omega arith) ∙ done l less)
    (get_or-set_same sums i z (pos 0) low ∙ is ∙ ap (λ x. int_wrap w32 (x +ℤ factor *ℤ number row (first + i))) same)

pub products_rest : (old sums : List ℤ) (i : ℕ) (z : ℤ) → ((l : ℕ) → i ≤ l → number sums l ≡ number old l)
    → (l : ℕ) → i + 1 ≤ l → number (set sums i z) l ≡ number old l
products_rest old sums i z rest l low = get_or-set_other sums i l z (pos 0) (omega arith) ∙ rest l (omega arith)
