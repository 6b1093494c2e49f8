-- Lists by their last element.
use Rattle.std.proofs.Common.{◌≡◌, ℕ, zero, suc, ◌+◌, ◌-◌, ◌<◌, List, [], ◌∷◌, ◌++◌, length, get_or, All, ◌⊎◌, Some, inl, inr, refl, ap, ◌∙◌, length-append, arith}
use Rattle.std.specs.List.Sorted.{IsStrictlyIncreasing}
use Rattle.std.proofs.Math.ListN.{get_or-append}
use Rattle.std.proofs.lemmas.List.Elements.{All-pop, All-from_get_or}
use Rattle.std.proofs.Math.Seq.{get_or-append_seam}

-- none, or the last one behind the others
pub by_last : {X : Type 0} (xs : List X) → (xs ≡ []) ⊎ ((front : List X) × (x : X) × (xs ≡ front ++ x ∷ []))
by_last [] = inl refl
by_last (x ∷ xs) =
    elim (by_last xs) as (λ v. (x ∷ xs ≡ []) ⊎ ((front : List _) × (y : _) × (x ∷ xs ≡ front ++ y ∷ []))) [
      | inl none ↦ inr ([], x, ap (λ l. x ∷ l) none)
      | inr h ↦ inr (x ∷ h.0, h.1, ap (λ l. x ∷ l) h.2)
    ]

-- a prefix of an ascending list ascends, and its last is above the others
pub ascend_front : (front : List ℕ) (x : ℕ) → IsStrictlyIncreasing (front ++ x ∷ []) → IsStrictlyIncreasing front
ascend_front front x up k below =
    let long = length-append front (x ∷ []) in
    let here : get_or (front ++ x ∷ []) k 0 ≡ get_or front k 0 = get_or-append front (x ∷ []) 0 k (omega arith) in
    let there : get_or (front ++ x ∷ []) (k + 1) 0 ≡ get_or front (k + 1) 0 = get_or-append front (x ∷ []) 0 (k + 1) (omega arith) in
    omega (arith, up k (omega arith), here, there)

pub not_nil : {X : Type 0} (xs : List X) (x : X) → xs ++ x ∷ [] ≡ [] → ⊥
not_nil [] x e = cc
not_nil (y ∷ xs) x e = cc

pub all_front : {X : Type 0} (P : X → Type 0) (front : List X) (x : X) → All P (front ++ x ∷ []) → All P front
all_front P front x h = (All-pop P (front ++ x ∷ []) front (Some x) refl h).0

pub all_last : {X : Type 0} (P : X → Type 0) (front : List X) (x : X) → All P (front ++ x ∷ []) → P x
all_last P front x h = (All-pop P (front ++ x ∷ []) front (Some x) refl h).1

-- what is some places before the end is below the last
below_last : (front : List ℕ) (x : ℕ) → IsStrictlyIncreasing (front ++ x ∷ []) → (k d : ℕ) → k + d ≡ length front → k < length front → get_or front k 0 < x
below_last front x up k zero e below = absurd (omega arith)
below_last front x up k (suc zero) e below =
    let long = length-append front (x ∷ []) in
    let here : get_or (front ++ x ∷ []) k 0 ≡ get_or front k 0 = get_or-append front (x ∷ []) 0 k below in
    let there : get_or (front ++ x ∷ []) (k + 1) 0 ≡ x =
    ap (λ i. get_or (front ++ x ∷ []) i 0) (let y : k + 1 ≡ length front = omega arith in y) ∙ get_or-append_seam front x [] 0 in
    omega (arith, up k (omega arith), here, there)
below_last front x up k (suc (suc d)) e below =
    let long = length-append front (x ∷ []) in
    let next = below_last front x up (k + 1) (suc d) (omega arith) (omega arith) in
    let here : get_or (front ++ x ∷ []) k 0 ≡ get_or front k 0 = get_or-append front (x ∷ []) 0 k below in
    let there : get_or (front ++ x ∷ []) (k + 1) 0 ≡ get_or front (k + 1) 0 = get_or-append front (x ∷ []) 0 (k + 1) (omega arith) in
    omega (arith, up k (omega arith), here, there, next)

-- the last of an ascending list is above the others
pub ascend_last : (front : List ℕ) (x : ℕ) → IsStrictlyIncreasing (front ++ x ∷ []) → All (λ (m : ℕ). m < x) front
ascend_last front x up = All-from_get_or (λ (m : ℕ). m < x) front 0 (λ k below. below_last front x up k (length front - k) (omega arith) below)
