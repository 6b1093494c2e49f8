-- Sums over a list in which one element is replaced, and sums that one element has alone.
use Rattle.std.proofs.Common.{◌≡◌, ℕ, zero, suc, ◌+◌, ◌≤◌, List, [], ◌∷◌, set, sym, ap, refl, arith}
use Rattle.std.specs.Prelude.{sum_by}
use Rattle.std.proofs.lemmas.List.Sums.{sum_by-cons}
use mathlib.Core.Option.{some, some-injective, some-ne-none}
use lib.ListN.{get_elem?}

module _ {A : Type 0} (f : A → ℕ) where
  -- one element is replaced
  pub put : (l : List A) (i : ℕ) (v w : A) → get_elem? l i ≡ some v → sum_by f (set l i w) + f v ≡ sum_by f l + f w
  put [] i v w e = absurd (some-ne-none v (sym e))
  put (x ∷ xs) zero v w e =
      let same : f x ≡ f v = ap f (some-injective x v e) in
      omega (arith, same, sum_by-cons f x xs, sum_by-cons f w xs)
  put (x ∷ xs) (suc i) v w e =
      let rest = put xs i v w e in
      omega (arith, rest, sum_by-cons f x xs, sum_by-cons f x (set xs i w))

  -- one element is at most the sum
  pub part : (l : List A) (i : ℕ) (v : A) → get_elem? l i ≡ some v → f v ≤ sum_by f l
  part [] i v e = absurd (some-ne-none v (sym e))
  part (x ∷ xs) zero v e =
      let same : f x ≡ f v = ap f (some-injective x v e) in
      omega (arith, same, sum_by-cons f x xs)
  part (x ∷ xs) (suc i) v e =
      let rest = part xs i v e in
      omega (arith, rest, sum_by-cons f x xs)

  -- nothing is the sum of elements that are nothing
  pub none_of : (l : List A) → ((k : ℕ) (v : A) → get_elem? l k ≡ some v → f v ≡ 0) → sum_by f l ≡ 0
  none_of [] each = refl
  none_of (x ∷ xs) each =
      let first = each 0 x refl in
      let rest = none_of xs (λ k v e. each (suc k) v e) in
      omega (arith, first, rest, sum_by-cons f x xs)

module _ {A : Type 0} (s f : A → ℕ) where
  -- what an element with the whole of s has is the sum, for an f that is 0 wherever s is
  pub whole : (l : List A) (i : ℕ) (v : A)
      → ((k : ℕ) (u : A) → get_elem? l k ≡ some u → s u ≡ 0 → f u ≡ 0)
      → get_elem? l i ≡ some v → sum_by s l ≡ s v → sum_by f l ≡ f v
  whole [] i v nil e all = absurd (some-ne-none v (sym e))
  whole (x ∷ xs) zero v nil e all =
      let same : f x ≡ f v = ap f (some-injective x v e) in
      let share : s x ≡ s v = ap s (some-injective x v e) in
      let none : sum_by s xs ≡ 0 = omega (arith, share, all, sum_by-cons s x xs) in
      let rest = none_of f xs (λ k u at. let p = part s xs k u at in nil (suc k) u at (omega (arith, p, none))) in
      omega (arith, same, rest, sum_by-cons f x xs)
  whole (x ∷ xs) (suc i) v nil e all =
      let p = part s xs i v e in
      let zero_here : s x ≡ 0 = omega (arith, p, all, sum_by-cons s x xs) in
      let here = nil 0 x refl zero_here in
      let rest = whole xs i v (λ k u at. nil (suc k) u at) e (omega (arith, p, all, sum_by-cons s x xs)) in
      omega (arith, here, rest, sum_by-cons f x xs)

-- a sum of more is more
pub more_of : {A : Type 0} (f g : A → ℕ) → ((x : A) → f x ≤ g x) → (l : List A) → sum_by f l ≤ sum_by g l
more_of f g each [] = omega arith
more_of f g each (x ∷ xs) =
    let here = each x in
    let rest = more_of f g each xs in
    omega (arith, here, rest, sum_by-cons f x xs, sum_by-cons g x xs)
