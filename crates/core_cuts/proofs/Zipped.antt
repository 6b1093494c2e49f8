-- Values that stand in the order of nodes.
use Rattle.std.proofs.Common.{◌≡◌, ℕ, zero, suc, ◌+◌, ◌<◌, ◌≤◌, nat_eq, List, [], ◌∷◌, length, get_or, drop, zip, All, refl, ap₂, ◌∙◌, eq-eqb, ne_eqb, ext_get_or, arith}
use Rattle.std.proofs.lemmas.List.{drop_more}
use Rattle.std.specs.List.Sorted.{IsStrictlyIncreasing}
use Rattle.std.proofs.lemmas.List.Elements.{All-head, All-tail, Contains-get_or}
use Rattle.hub_spec.specs.Cuts.{value_at}
use Rattle.hub_spec.proofs.SumLemmas.{by_test}
use Rattle.hub_spec.proofs.Sets.{ascend_tail, ascend_head}

-- the node at a place has the value at that place
pub value_at_place : (ks vs : List ℕ) (x : ℕ) → IsStrictlyIncreasing ks → length vs ≡ length ks → x < length ks
    → value_at (zip ks vs) (get_or ks x 0) ≡ get_or vs x 0
value_at_place [] vs x up long l = absurd (omega arith)
value_at_place (k ∷ ks) [] x up long l = absurd (omega arith)
value_at_place (k ∷ ks) (v ∷ vs) zero up long l = rw (eq-eqb k k refl) refl
value_at_place (k ∷ ks) (v ∷ vs) (suc x) up long l =
    let above = ascend_head k ks (get_or ks x 0) up (Contains-get_or ks x 0 (omega arith)) in
    rw (ne_eqb k (get_or ks x 0) (λ e. absurd (omega (arith, above, e)))) (value_at_place ks vs x (ascend_tail k ks up) (omega arith) (omega arith))

-- no node has a greater value than there is
pub value_at_limit : (most : ℕ) (ks vs : List ℕ) (k : ℕ) → All (λ v. v ≤ most) vs → value_at (zip ks vs) k ≤ most
value_at_limit most [] vs k few = omega arith
value_at_limit most (m ∷ ks) [] k few = omega arith
value_at_limit most (m ∷ ks) (v ∷ vs) k few =
    by_test (nat_eq m k) (λ e. rw e (All-head (λ x. x ≤ most) v vs few))
    (λ e. rw e (value_at_limit most ks vs k (All-tail (λ x. x ≤ most) v vs few)))

-- the values that each node has are all values
pub same_values : (ks vs ws : List ℕ) → IsStrictlyIncreasing ks → length vs ≡ length ks → length ws ≡ length ks
    → ((x : ℕ) → x < length ks → value_at (zip ks vs) (get_or ks x 0) ≡ value_at (zip ks ws) (get_or ks x 0)) → vs ≡ ws
same_values ks vs ws up long also same =
    ext_get_or 0 vs ws (omega (arith, long, also)) (λ x l.
    (let here : x < length ks = omega (arith, long, l) in
    let one = value_at_place ks vs x up long here in
    let other = value_at_place ks ws x up also here in
    omega (arith, one, other, same x here)))

-- ---- a search for a node

-- a node that is not the one that is looked for is passed over
pub value_later : (ks vs : List ℕ) (x k : ℕ) → x < length ks → length vs ≡ length ks → (get_or ks x 0 ≡ k → ⊥)
    → value_at (zip ks vs) k ≡ value_at (zip (drop x ks) (drop x vs)) k
    → value_at (zip ks vs) k ≡ value_at (zip (drop (x + 1) ks) (drop (x + 1) vs)) k
value_later ks vs x k within long apart so_far =
    so_far ∙ ap₂ (λ (ms ws : List ℕ). value_at (zip ms ws) k) (drop_more ks x 0 within) (drop_more vs x 0 (omega (arith, long, within)))
    ∙ rw (ne_eqb (get_or ks x 0) k apart) refl
