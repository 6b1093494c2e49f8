-- The cheaper of two costs, either of which may be absent.
use Rattle.std.proofs.Common.{◌≡◌, ◌≢◌, ℕ, ◌<◌, min, true, false, nat_lt, Option, Some, None, ◌⊎◌, inl, inr, ⊎_elim, refl, ap, sym, ltb-true, true≢false, arith}
use Rattle.std.proofs.lemmas.Bool.{cases_lt, ltb-false}
use Rattle.std.proofs.lemmas.Option.{same_Some, none-some}
use Rattle.hub_spec.specs.Edges.{lesser_cost, IsCheaper}
use Rattle.hub_spec.proofs.SumLemmas.{by_test}
use Rattle.hub_edges.specs.Rows.{IsThere}
use Rattle.hub_edges.specs.Pairs.{is_cheaper}

-- the first cost is cheaper, or both are alike and k is before m
abbrev pub IsFirst : Option ℕ → Option ℕ → ℕ → ℕ → Type 0
IsFirst x y k m = IsCheaper x y ⊎ ((x ≡ y) × (k < m))

pub cheaper_when : (x y : Option ℕ) → is_cheaper x y ≡ true → IsCheaper x y
cheaper_when None y e = absurd (true≢false (sym e))
cheaper_when (Some a) None e = tt
cheaper_when (Some a) (Some b) e = ltb-true a b e

pub when_cheaper : (x y : Option ℕ) → IsCheaper x y → is_cheaper x y ≡ true
when_cheaper None y cheaper = absurd cheaper
when_cheaper (Some a) None cheaper = refl
when_cheaper (Some a) (Some b) cheaper =
    by_test (nat_lt a b) (λ e. e) (λ e. absurd (let above = ltb-false a b e in omega (arith, above, cheaper)))

-- what is cheaper is there
pub cheaper_there : (x y : Option ℕ) → IsCheaper x y → IsThere x
cheaper_there None y cheaper = absurd cheaper
cheaper_there (Some a) y cheaper = (a, refl)

-- the lesser cost is that of the cheaper one
pub cheaper_lesser : (x y : Option ℕ) → is_cheaper x y ≡ true → lesser_cost x y ≡ x
cheaper_lesser None y e = absurd (true≢false (sym e))
cheaper_lesser (Some a) None e = refl
cheaper_lesser (Some a) (Some b) e = let less = ltb-true a b e in let same : min a b ≡ a = omega (arith, less) in ap Some same

pub other_lesser : (x y : Option ℕ) → is_cheaper y x ≡ false → lesser_cost x y ≡ x
other_lesser None None e = refl
other_lesser None (Some b) e = absurd (true≢false e)
other_lesser (Some a) None e = refl
other_lesser (Some a) (Some b) e = let above = ltb-false b a e in let same : min a b ≡ a = omega (arith, above) in ap Some same

pub first_when : (x y : Option ℕ) (k m : ℕ) → is_cheaper y x ≡ false → IsThere x → k < m → IsFirst x y k m
first_when None y k m e there less = absurd (none-some there.0 there.1)
first_when (Some a) None k m e there less = inl tt
first_when (Some a) (Some b) k m e there less =
    let above = ltb-false b a e in
    ⊎_elim (λ cheaper. inl cheaper) (λ most. let same : a ≡ b = omega (arith, above, most) in inr (ap Some same, less)) (cases_lt a b)

pub one_is_first : (x y : Option ℕ) (k m : ℕ) → k ≢ m → IsFirst x y k m ⊎ IsFirst y x m k
one_is_first None None k m apart =
    ⊎_elim (λ up. inl (inr (refl, up))) (λ down. inr (inr (refl, omega (arith, down, apart)))) (cases_lt k m)
one_is_first None (Some b) k m apart = inr (inl tt)
one_is_first (Some a) None k m apart = inl (inl tt)
one_is_first (Some a) (Some b) k m apart =
    ⊎_elim (λ less. inl (inl less)) (λ above. ⊎_elim (λ less. inr (inl less))
    (λ below. let same : a ≡ b = omega (arith, above, below) in
    ⊎_elim (λ up. inl (inr (ap Some same, up))) (λ down. inr (inr (ap Some (sym same), omega (arith, down, apart)))) (cases_lt k m))
    (cases_lt b a)) (cases_lt a b)

-- one is not both first and dearer
pub first_not_dearer : (x y : Option ℕ) (k m : ℕ) → IsFirst x y k m → is_cheaper y x ≡ true → ⊥
first_not_dearer x None k m first e = true≢false (sym e)
first_not_dearer None (Some b) k m first e = ⊎_elim (λ none. none) (λ same. none-some b same.0) first
first_not_dearer (Some a) (Some b) k m first e =
    let less = ltb-true b a e in
    ⊎_elim (λ more. omega (arith, less, more)) (λ same. (let i = same_Some a b same.0 in omega (arith, less, i))) first
