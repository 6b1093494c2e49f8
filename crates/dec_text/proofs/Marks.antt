-- Whether some byte is marked, by the place of the first.
use Rattle.std.proofs.Common.{◌≡◌, ℕ, suc, ◌+◌, ◌<◌, ◌≤◌, Bool, true, false, not, ◌||◌, List, [], ◌∷◌, length, refl, ◌∙◌, ap, arith}
use Rattle.std.specs.List.{list_any, position_or_len, after_first}
use Rattle.std.proofs.lemmas.Bool.{cond-true, cond-false, not_from_true, not_from_false}
use Rattle.std.proofs.lemmas.List.{drop_all}

module _ (p : ℕ → Bool) where
  first_here : (x : ℕ) (xs : List ℕ) → p x ≡ true → position_or_len p (x ∷ xs) ≡ 0
  first_here x xs e = cond-false (not (p x)) _ _ (not_from_true (p x) e)

  first_later : (x : ℕ) (xs : List ℕ) → p x ≡ false → position_or_len p (x ∷ xs) ≡ suc (position_or_len p xs)
  first_later x xs e = cond-true (not (p x)) _ _ (not_from_false (p x) e) ∙ omega arith

  marked_step : (t : Bool) (x : ℕ) (xs : List ℕ) → p x ≡ t → (position_or_len p xs < length xs → list_any p xs ≡ true)
      → position_or_len p (x ∷ xs) < length (x ∷ xs) → list_any p (x ∷ xs) ≡ true
  marked_step true x xs e more h = ap (λ t. t || list_any p xs) e
  marked_step false x xs e more h = ap (λ t. t || list_any p xs) e ∙ more (omega (arith, first_later x xs e))

  pub marked : (xs : List ℕ) → position_or_len p xs < length xs → list_any p xs ≡ true
  marked [] h = absurd (omega arith)
  marked (x ∷ xs) h = marked_step (p x) x xs refl (marked xs) h

  unmarked_step : (t : Bool) (x : ℕ) (xs : List ℕ) → p x ≡ t → (length xs ≤ position_or_len p xs → list_any p xs ≡ false)
      → length (x ∷ xs) ≤ position_or_len p (x ∷ xs) → list_any p (x ∷ xs) ≡ false
  unmarked_step true x xs e more h = absurd (omega (arith, first_here x xs e))
  unmarked_step false x xs e more h = ap (λ t. t || list_any p xs) e ∙ more (omega (arith, first_later x xs e))

  pub unmarked : (xs : List ℕ) → length xs ≤ position_or_len p xs → list_any p xs ≡ false
  unmarked [] h = refl
  unmarked (x ∷ xs) h = unmarked_step (p x) x xs refl (unmarked xs) h

  pub nothing_behind : (xs : List ℕ) → length xs ≤ position_or_len p xs → after_first p xs ≡ []
  nothing_behind xs h = drop_all (position_or_len p xs + 1) xs (omega arith)
