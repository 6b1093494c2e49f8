-- Lists that a formula gives, and a list that is pushed one by one, seen through g, and is what a formula gives.
use Rattle.std.proofs.Common.{◌≡◌, ℕ, zero, suc, refl, ◌+◌, ◌^◌, ◌<◌, List, [], ◌∷◌, ◌++◌, map, All, ℤ, pos, sym, subst, ap, ap₂, ◌∙◌, arith}
use Rattle.std.specs.List.{range_with_len}
use Rattle.std.proofs.lemmas.List.{map_push}
use Rattle.std.proofs.lemmas.List.FromFn.{map-range_with_len_more}
use Rattle.std.proofs.lemmas.Int.{ints}
use Rattle.std.proofs.lemmas.List.Elements.{All-nil, All-push}
use Rattle.hub_model.specs.Amounts.{natural, IsListedNumber}

-- two formulas that agree below m give the same list
pub same_below : {X : Type 0} (f g : ℕ → X) (m : ℕ) → ((s : ℕ) → s < m → f s ≡ g s) → map f (range_with_len 0 m) ≡ map g (range_with_len 0 m)
same_below f g m h = same_from f g 0 m (λ s below. h s (omega arith))
  where
    same_from : {X : Type 0} (f g : ℕ → X) (a m : ℕ) → ((s : ℕ) → s < a + m → f s ≡ g s) → map f (range_with_len a m) ≡ map g (range_with_len a m)
    same_from f g a zero h = refl
    same_from f g a (suc m) h = ap₂ (λ x xs. x ∷ xs) (h a (omega arith)) (same_from f g (a + 1) m (λ s below. h s (omega arith)))

-- before the first push
pub formula_none : {A B : Type 0} (g : A → B) (f : ℕ → B) (items : List A) → items ≡ [] → map g items ≡ map f (range_with_len 0 0)
formula_none g f items none = ap (map g) none

-- one more is pushed
pub formula_push : {A B : Type 0} (g : A → B) (f : ℕ → B) (m : ℕ) (v : A) (before after : List A) → after ≡ before ++ v ∷ [] → g v ≡ f m
    → map g before ≡ map f (range_with_len 0 m) → map g after ≡ map f (range_with_len 0 (m + 1))
formula_push g f m v before after pushed is values =
    ap (map g) pushed
    ∙ (map_push g before v ∙ (ap₂ (λ xs x. xs ++ x ∷ []) values is ∙ sym (map-range_with_len_more f 0 m m (omega arith))))

-- one more amount is pushed
pub amount_push : (f : ℕ → ℕ) (m v : ℕ) (before after : List ℤ) → after ≡ before ++ pos v ∷ [] → v ≡ f m
    → map natural before ≡ map f (range_with_len 0 m) → map natural after ≡ map f (range_with_len 0 (m + 1))
amount_push f m v before after pushed is values = formula_push natural f m (pos v) before after pushed is values

-- the amounts that are pushed may be listed
pub listed_none : (items : List ℤ) → items ≡ [] → All IsListedNumber items
listed_none items none = rw none (All-nil IsListedNumber)

pub listed_push : (v : ℕ) (before after : List ℤ) → after ≡ before ++ pos v ∷ [] → v < 2 ^ 64 → All IsListedNumber before → All IsListedNumber after
listed_push v before after pushed small limits =
    let P : List ℤ → Type 0 = λ zs. All IsListedNumber zs in
    let listed : IsListedNumber (pos v) = record { least = omega (arith, ints); most = omega (arith, ints) } in
    subst P (sym pushed) (All-push IsListedNumber before (pos v) limits listed)
