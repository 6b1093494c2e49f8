-- The cuts of a finding, and their marks, as a certificate states them.
use Rattle.std.proofs.Common.{◌≡◌, ℕ, ◌+◌, ◌<◌, List, [], ◌∷◌, ◌++◌, length, map, take, get_or, refl, sym, ap, ap₂, ◌∙◌, arith}
use Rattle.std.specs.List.{AllZip}
use Rattle.std.proofs.lemmas.List.{get_or-map, length-map, take_more}
use Rattle.hub_spec.specs.Cuts.{Prices}
use Rattle.cut_pool.specs.Kept.{Kept, by_set, kept_at}
use Rattle.proof_text.proofs.FoundLines.{same_place}

-- ---- the duals of a cut

-- the dual is what the function gives of the commodity
abbrev pub IsDualOf : (ℕ × ℕ → Prices) → ℕ × ℕ → Prices → Type 0
IsDualOf d c dual = dual ≡ d c

abbrev pub AreDualsOf : (ℕ × ℕ → Prices) → List (ℕ × ℕ) → List Prices → Type 0
AreDualsOf d cs duals = AllZip (IsDualOf d) cs duals

pub duals_are : (d : ℕ × ℕ → Prices) (cs : List (ℕ × ℕ)) (duals : List Prices) → AreDualsOf d cs duals → duals ≡ map d cs
duals_are d [] [] are = refl
duals_are d [] (dual ∷ duals) are = absurd are
duals_are d (c ∷ cs) [] are = absurd are
duals_are d (c ∷ cs) (dual ∷ duals) are = ap₂ (λ (x : Prices) (xs : List Prices). x ∷ xs) are.0 (duals_are d cs duals are.1)

-- ---- what is made of each stored cut

made_at : {X : Type 0} (f : Kept → X) (kept : List Kept) (x : ℕ) (d : X) (one : Kept) → x < length kept → one ≡ kept_at kept (x + 1)
    → f one ≡ get_or (map f kept) x d
made_at f kept x d one l is = ap f (is ∙ same_place kept x) ∙ sym (get_or-map f kept x (by_set [] []) d l)

-- one more
pub next_made : {X : Type 0} (f : Kept → X) (kept : List Kept) (x : ℕ) (one : Kept) (made : List X) (new : X) → x < length kept
    → one ≡ kept_at kept (x + 1) → new ≡ f one → made ≡ take x (map f kept) → made ++ new ∷ [] ≡ take (x + 1) (map f kept)
next_made {X = X} f kept x one made new l at is so_far =
    ap₂ (λ (xs : List X) (y : X). xs ++ y ∷ []) so_far (is ∙ made_at f kept x new one l at)
    ∙ sym (take_more (map f kept) x new (omega (arith, length-map kept f, l)))
