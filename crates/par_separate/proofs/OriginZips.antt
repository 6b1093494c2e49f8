-- The sums of the origins, which stand in the order of the origins.
use Rattle.std.proofs.Common.{◌≡◌, ℕ, zero, suc, ◌<◌, List, [], ◌∷◌, length, get_or, sym, subst, arith}
use Rattle.std.specs.List.{AllZip, range_with_len}
use Rattle.std.proofs.lemmas.List.FromFn.{get_or-range_with_len, length-range_with_len}

module _ {B : Type 0} where
  long_zip : (R : ℕ → B → Type 0) (xs : List ℕ) (ys : List B) → AllZip R xs ys → length xs ≡ length ys
  long_zip R [] [] h = omega arith
  long_zip R [] (y ∷ ys) h = absurd h
  long_zip R (x ∷ xs) [] h = absurd h
  long_zip R (x ∷ xs) (y ∷ ys) h = let rest = long_zip R xs ys h.1 in omega arith

  zip_at : (R : ℕ → B → Type 0) (xs : List ℕ) (ys : List B) (i d : ℕ) (e : B) → AllZip R xs ys → i < length xs → R (get_or xs i d) (get_or ys i e)
  zip_at R [] ys i d e h below = absurd (omega arith)
  zip_at R (x ∷ xs) [] i d e h below = absurd h
  zip_at R (x ∷ xs) (y ∷ ys) zero d e h below = h.0
  zip_at R (x ∷ xs) (y ∷ ys) (suc i) d e h below = zip_at R xs ys i d e h.1 (omega arith)

  -- the item that stands at i is of i
  pub at_origin : (R : ℕ → B → Type 0) (n : ℕ) (ys : List B) (i : ℕ) (y : B) → AllZip R (range_with_len 0 n) ys → i < n → y ≡ get_or ys i y → R i y
  at_origin R n ys i y h below is =
      let here : R (get_or (range_with_len 0 n) i 0) (get_or ys i y) = zip_at R (range_with_len 0 n) ys i 0 y h (omega (arith, length-range_with_len 0 n)) in
      let place : get_or (range_with_len 0 n) i 0 ≡ i = omega (arith, get_or-range_with_len 0 n i 0 below) in
      subst (R i) (sym is) (subst (λ k. R k (get_or ys i y)) place here)

  pub many_origins : (R : ℕ → B → Type 0) (n : ℕ) (ys : List B) → AllZip R (range_with_len 0 n) ys → length ys ≡ n
  many_origins R n ys h = omega (arith, long_zip R (range_with_len 0 n) ys h, length-range_with_len 0 n)
