-- Sums of products, number by number, and what they are at most in size.
use Rattle.std.proofs.Common.{◌≡◌, ℕ, zero, suc, ◌+◌, ◌*◌, ◌<◌, ◌≤◌, List, [], ◌∷◌, length, get_or, take, sum, All, ℤ, pos, ◌+ℤ◌, ◌*ℤ◌, unsigned_abs, refl, sym, ap, ◌∙◌, arith, add-one}
use Rattle.std.specs.Int.{Width, int_wrap}
use Rattle.std.proofs.Math.Nat.{mul-le-mul_right, mul-le-mul}
use Rattle.std.proofs.lemmas.Int.{ints, unsigned_abs-mul, int_wrap-add_left}
use Rattle.std.proofs.lemmas.List.{take_all}
use Rattle.std.proofs.lemmas.List.Elements.{All-head, All-tail}
use Rattle.std.proofs.lemmas.List.Sums.{sum_by-cons}
use Rattle.frac_rows.specs.Rows.{widest, number, AreNarrow}
use Rattle.frac_rows.specs.Stored.{dot, reach, IsUnder}
use Rattle.frac_rows.proofs.Integers.{unsigned_abs-+ℤ-le}

-- ---- number by number

dot_suc : (row column : List ℤ) (i : ℕ) → i < length row → i < length column
    → dot (take (suc i) row) (take (suc i) column) ≡ dot (take i row) (take i column) +ℤ number row i *ℤ number column i
dot_suc [] column i low long = absurd (omega arith)
dot_suc (x ∷ row) [] i low long = absurd (omega arith)
dot_suc (x ∷ row) (y ∷ column) zero low long = omega (arith, ints)
dot_suc (x ∷ row) (y ∷ column) (suc i) low long = omega (arith, ints, dot_suc row column i (omega arith) (omega arith))

pub dot_more : (row column : List ℤ) (i : ℕ) → i < length row → i < length column
    → dot (take (i + 1) row) (take (i + 1) column) ≡ dot (take i row) (take i column) +ℤ number row i *ℤ number column i
dot_more row column i low long = rw (add-one i) (dot_suc row column i low long)

pub dot_short : (row column : List ℤ) (n : ℕ) → length column ≤ n → dot (take n row) column ≡ dot row column
dot_short [] column zero short = refl
dot_short [] column (suc n) short = refl
dot_short (x ∷ row) [] zero short = refl
dot_short (x ∷ row) [] (suc n) short = refl
dot_short (x ∷ row) (y ∷ column) zero short = absurd (omega arith)
dot_short (x ∷ row) (y ∷ column) (suc n) short = ap (λ z. x *ℤ y +ℤ z) (dot_short row column n (omega arith))

pub dot_all : (row column : List ℤ) (n : ℕ) → length column ≤ n → dot (take n row) (take n column) ≡ dot row column
dot_all row column n short = ap (dot (take n row)) (take_all n column short) ∙ dot_short row column n short

-- what is left of the sum in a type's bits
pub wrapped_more : (w : Width) (row column : List ℤ) (i : ℕ) (sum more : ℤ) → i < length row → i < length column
    → sum ≡ int_wrap w (dot (take i row) (take i column)) → more ≡ int_wrap w (sum +ℤ number row i *ℤ number column i)
    → more ≡ int_wrap w (dot (take (i + 1) row) (take (i + 1) column))
wrapped_more w row column i sum more low long so_far is =
    is ∙ ap (λ z. int_wrap w (z +ℤ number row i *ℤ number column i)) so_far
    ∙ int_wrap-add_left w (dot (take i row) (take i column)) (number row i *ℤ number column i)
    ∙ ap (int_wrap w) (sym (dot_more row column i low long))

reach_suc : (row : List ℤ) (tops : List ℕ) (i : ℕ) → i < length row → i < length tops
    → reach (take (suc i) row) (take (suc i) tops) ≡ reach (take i row) (take i tops) + unsigned_abs (number row i) * get_or tops i 0
reach_suc [] tops i low long = absurd (omega arith)
reach_suc (x ∷ row) [] i low long = absurd (omega arith)
reach_suc (x ∷ row) (t ∷ tops) zero low long = omega arith
reach_suc (x ∷ row) (t ∷ tops) (suc i) low long = omega (arith, reach_suc row tops i (omega arith) (omega arith))

pub reach_more : (row : List ℤ) (tops : List ℕ) (i : ℕ) → i < length row → i < length tops
    → reach (take (i + 1) row) (take (i + 1) tops) ≡ reach (take i row) (take i tops) + unsigned_abs (number row i) * get_or tops i 0
reach_more row tops i low long = rw (add-one i) (reach_suc row tops i low long)

reach_short : (row : List ℤ) (tops : List ℕ) (n : ℕ) → length tops ≤ n → reach (take n row) tops ≡ reach row tops
reach_short [] tops zero short = refl
reach_short [] tops (suc n) short = refl
reach_short (x ∷ row) [] zero short = refl
reach_short (x ∷ row) [] (suc n) short = refl
reach_short (x ∷ row) (t ∷ tops) zero short = absurd (omega arith)
reach_short (x ∷ row) (t ∷ tops) (suc n) short = ap (λ m. unsigned_abs x * t + m) (reach_short row tops n (omega arith))

pub reach_all : (row : List ℤ) (tops : List ℕ) (n : ℕ) → length tops ≤ n → reach (take n row) (take n tops) ≡ reach row tops
reach_all row tops n short = ap (reach (take n row)) (take_all n tops short) ∙ reach_short row tops n short

-- ---- sizes

pub dot_le_reach : (row column : List ℤ) (tops : List ℕ) → length column ≡ length tops → IsUnder column tops → unsigned_abs (dot row column) ≤ reach row tops
dot_le_reach [] column tops long under = omega arith
dot_le_reach (x ∷ row) [] tops long under = omega arith
dot_le_reach (x ∷ row) (y ∷ column) [] long under = absurd (omega arith)
dot_le_reach (x ∷ row) (y ∷ column) (t ∷ tops) long under =
    let rest = dot_le_reach row column tops (omega arith) (λ k low. under (suc k) (omega arith)) in
    let first : unsigned_abs x * unsigned_abs y ≤ unsigned_abs x * t = mul-le-mul (omega arith) (under 0 (omega arith)) in
    omega (arith, unsigned_abs-+ℤ-le (x *ℤ y) (dot row column), unsigned_abs-mul x y, first, rest)

pub reach_limit : (row : List ℤ) (tops : List ℕ) → AreNarrow row → reach row tops ≤ widest * sum tops
reach_limit [] tops narrow = omega arith
reach_limit (x ∷ row) [] narrow = omega arith
reach_limit (x ∷ row) (t ∷ tops) narrow =
    let first : unsigned_abs x * t ≤ widest * t = mul-le-mul_right t (narrow 0 (pos 0) (omega arith)) in
    let rest = reach_limit row tops (λ k d low. narrow (suc k) d (omega arith)) in
    omega (arith, first, rest, sum_by-cons (λ n. n) t tops)

-- where no number of the row is above `most` in size
pub reach_sizes : (row : List ℤ) (tops : List ℕ) (most : ℕ) → All (λ x. unsigned_abs x ≤ most) row → reach row tops ≤ most * sum tops
reach_sizes [] tops most sizes = omega arith
reach_sizes (x ∷ row) [] most sizes = omega arith
reach_sizes (x ∷ row) (t ∷ tops) most sizes =
    let rest = reach_sizes row tops most (All-tail (λ y. unsigned_abs y ≤ most) x row sizes) in
    let first : unsigned_abs x * t ≤ most * t = mul-le-mul_right t (All-head (λ y. unsigned_abs y ≤ most) x row sizes) in
    omega (arith, rest, first, ap (λ n. most * n) (sum_by-cons (λ n. n) t tops))
