-- The rows of the origins, which stand in the order of the origins.
use Rattle.std.proofs.Common.{◌≡◌, ℕ, zero, suc, ◌+◌, ◌<◌, List, [], ◌∷◌, length, get_or, sym, subst, arith}
use Rattle.std.specs.List.{AllZip, range_with_len}
use Rattle.std.proofs.lemmas.List.FromFn.{length-range_with_len}
use Rattle.std.proofs.lemmas.Slice.Zip.{AllZip-long}

module _ {B : Type 0} (R : ℕ → B → Type 0) where
  row_from : (a n : ℕ) (ys : List B) (i : ℕ) (y : B) → AllZip R (range_with_len a n) ys → i < n → y ≡ get_or ys i y → R (a + i) y
  row_from a zero ys i y h below is = absurd (omega (arith, below))
  row_from a (suc n) [] i y h below is = absurd h
  row_from a (suc n) (first ∷ ys) zero y h below is =
      let place : a ≡ a + zero = omega arith in
      subst (R (a + zero)) (sym is) (subst (λ (k : ℕ). R k first) place h.0)
  row_from a (suc n) (first ∷ ys) (suc i) y h below is =
      let place : (a + 1) + i ≡ a + suc i = omega arith in
      subst (λ (k : ℕ). R k y) place (row_from (a + 1) n ys i y h.1 (omega (arith, below)) is)

  -- the row that stands at i is of i
  pub row_at : (n : ℕ) (ys : List B) (i : ℕ) (y : B) → AllZip R (range_with_len 0 n) ys → i < n → y ≡ get_or ys i y → R i y
  row_at n ys i y h below is =
      let place : 0 + i ≡ i = omega arith in
      subst (λ (k : ℕ). R k y) place (row_from 0 n ys i y h below is)

  -- there are as many as origins
  pub many_rows : (n : ℕ) (ys : List B) → AllZip R (range_with_len 0 n) ys → length ys ≡ n
  many_rows n ys h = omega (arith, AllZip-long R (range_with_len 0 n) ys h, length-range_with_len 0 n)
