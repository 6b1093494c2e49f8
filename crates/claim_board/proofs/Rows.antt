-- Rows found by their block, and answers taken out of them one by one.
use Rattle.std.proofs.Common.{◌≡◌, ℕ, ◌+◌, ◌<◌, ◌⊎◌, List, [], ◌∷◌, ◌++◌, map, length, get_or, set, sym, ap, ◌∙◌, subst, refl, ⊎_elim, inl, inr, arith, map-id}
use Rattle.std.specs.Prelude.{All, HoldsAt, MatchOption, Some, None, Option, ◌==◌, count_by}
use Rattle.std.specs.List.{AllZip, range_with_len}
use Rattle.std.proofs.lemmas.List.Sums.{sum_by-cons}
use Rattle.std.proofs.lemmas.List.FromFn.{map-range_with_len_more}
use Rattle.std.proofs.Math.Seq.{map-set_same}
use Rattle.std.proofs.lemmas.List.Elements.{All-set}
use mathlib.Core.Bool.{cond}
use Rattle.claim_board.specs.declared.crops.Row.{Row}
use Rattle.claim_board.specs.Crops.{block_of, IsAnswered}

range_further : (a n : ℕ) → range_with_len a (n + 1) ≡ range_with_len a n ++ (a + n) ∷ []
range_further a n =
    sym (map-id (range_with_len a (n + 1)))
    ∙ map-range_with_len_more (λ (x : ℕ). x) a n (a + n) refl
    ∙ ap (λ l. l ++ (a + n) ∷ []) (map-id (range_with_len a n))

module _ {T : Type 0} where
  zip_further : (R : ℕ → T → Type 0) (xs : List ℕ) (ys : List T) (x : ℕ) (y : T) → AllZip R xs ys → R x y → AllZip R (xs ++ x ∷ []) (ys ++ y ∷ [])
  zip_further R [] [] x y all here = (here, tt)
  zip_further R [] (b ∷ ys) x y all here = absurd all
  zip_further R (a ∷ xs) [] x y all here = absurd all
  zip_further R (a ∷ xs) (b ∷ ys) x y all here = (all.0, zip_further R xs ys x y all.1 here)

  pub count_blocks : (b : ℕ) (rows : List (Row T)) → count_by (λ r. r.block == b) rows ≡ count_by (λ x. x == b) (map block_of rows)
  count_blocks b [] = refl
  count_blocks b (r ∷ rows) =
      let rest = count_blocks b rows in
      omega (arith, rest, sum_by-cons (λ (s : Row T). cond (s.block == b) 1 0) r rows, sum_by-cons (λ (x : ℕ). cond (x == b) 1 0) r.block (map block_of rows))

  -- a list of the same blocks has a row for the same blocks
  pub has_row : (xs ys : List (Row T)) (b : ℕ) → map block_of xs ≡ map block_of ys → 0 < count_by (λ r. r.block == b) ys → 0 < count_by (λ r. r.block == b) xs
  has_row xs ys b same some =
      let e = count_blocks b xs ∙ ap (λ l. count_by (λ x. x == b) l) same ∙ sym (count_blocks b ys) in
      omega (arith, e, some)

  -- a row that was not passed has its answer
  pub here_answered : (answer : ℕ → T → Type 0) (rows : List (Row T)) (place block : ℕ) → All (λ r. (r.block < block) ⊎ IsAnswered answer r) rows → place < length rows
      → HoldsAt (λ r. r.block ≡ block) rows place → (r : Row T) → r ≡ get_or rows place r → IsAnswered answer r × (r.block ≡ block)
  here_answered answer rows place block all inside at r is =
      let b : r.block ≡ block = ap block_of is ∙ at r in (
        ⊎_elim
            (λ (passed : (get_or rows place r).block < block). let e = at r in absurd (omega (arith, e, passed)))
            (λ (has : IsAnswered answer (get_or rows place r)). subst (IsAnswered answer) (sym is) has)
            (all place r inside),
        b,
      )

  -- the answer of a row is taken out: its block stays, and it is passed
  pub taken_blocks : (rows : List (Row T)) (place : ℕ) (r t : Row T) → r ≡ get_or rows place r → t.block ≡ r.block → map block_of (set rows place t) ≡ map block_of rows
  taken_blocks rows place r t is same = map-set_same block_of rows place t r (same ∙ ap block_of is)

  pub taken_passed : (answer : ℕ → T → Type 0) (rows : List (Row T)) (place block : ℕ) (t : Row T) → All (λ r. (r.block < block) ⊎ IsAnswered answer r) rows → t.block ≡ block
      → All (λ r. (r.block < block + 1) ⊎ IsAnswered answer r) (set rows place t)
  taken_passed answer rows place block t all same =
      All-set (λ (r : Row T). (r.block < block + 1) ⊎ IsAnswered answer r) rows place t (inl (omega (arith, same)))
      (λ k d inside.
      ⊎_elim
      (λ (passed : (get_or rows k d).block < block). inl (omega (arith, passed)))
      (λ (has : IsAnswered answer (get_or rows k d)). inr has)
      (all k d inside))

  -- one more answer stands in its place
  pub answers_further : (R : ℕ → T → Type 0) (n : ℕ) (ys : List T) (y : T) → AllZip R (range_with_len 0 n) ys → R n y → AllZip R (range_with_len 0 (n + 1)) (ys ++ y ∷ [])
  answers_further R n ys y all here =
      subst (λ l. AllZip R l (ys ++ y ∷ [])) (sym (range_further 0 n))
      (zip_further R (range_with_len 0 n) ys (0 + n) y all (subst (λ k. R k y) (omega arith) here))

  pub not_none : (answer : ℕ → T → Type 0) (r : Row T) → IsAnswered answer r → r.value ≡ None → ⊥
  not_none answer r has is = subst (λ (o : Option T). MatchOption o ⊥ (answer r.block)) is has

  pub its_answer : (answer : ℕ → T → Type 0) (r : Row T) (a : T) → IsAnswered answer r → r.value ≡ Some a → answer r.block a
  its_answer answer r a has is = subst (λ (o : Option T). MatchOption o ⊥ (answer r.block)) is has
