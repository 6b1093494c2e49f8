-- The values of a dual, added to loads entry by entry.
use Rattle.std.proofs.Common.{◌≡◌, ℕ, ◌+◌, ◌<◌, ◌≤◌, List, [], ◌∷◌, length, nat_eq, get_or, take, map, set, All, ap, sym, ◌∙◌, ⊎_elim, arith}
use Rattle.std.specs.List.Sorted.{IsStrictlyIncreasing}
use Rattle.std.proofs.lemmas.Bool.{cases_eq, cond_both}
use Rattle.std.proofs.lemmas.List.{get_or-set_same, get_or-set_other}
use Rattle.std.proofs.lemmas.List.Elements.{All-head, All-tail, All-get_or}
use Rattle.hub_spec.specs.Cuts.{value_at}
use Rattle.hub_spec.proofs.ListedValues.{next_value}
use Rattle.cut_model.specs.Totals.{most_sum}

-- no value of the dual reaches what none of its listed values reaches
pub value_at_short : (m : ℕ) (u : List (ℕ × ℕ)) (k : ℕ) → 0 < m → All (λ (e : ℕ × ℕ). e.1 < m) u → value_at u k < m
value_at_short m [] k some h = some
value_at_short m (e ∷ u) k some h =
    cond_both (nat_eq e.0 k) e.1 (value_at u k) (λ v. v < m) (λ is. All-head (λ (e : ℕ × ℕ). e.1 < m) e u h)
    (λ is. value_at_short m u k some (All-tail (λ (e : ℕ × ℕ). e.1 < m) e u h))

-- the load of the next entry's node is as it was
load_before : (u : List (ℕ × ℕ)) (old loads : List ℕ) (e k : ℕ) → IsStrictlyIncreasing (map (λ (x : ℕ × ℕ). x.0) u) → e < length u
    → k ≡ (get_or u e (0, 0)).0 → ((m : ℕ) → get_or loads m 0 ≡ get_or old m 0 + value_at (take e u) m) → get_or loads k 0 ≡ get_or old k 0
load_before u old loads e k up below node each =
    let none : value_at (take e u) k ≡ 0 = ap (value_at (take e u)) node ∙ (next_value u e up below).none in
    omega (arith, none, each k)

pub load_limit : (u : List (ℕ × ℕ)) (old loads : List ℕ) (e k : ℕ) → IsStrictlyIncreasing (map (λ (x : ℕ × ℕ). x.0) u) → e < length u
    → k ≡ (get_or u e (0, 0)).0 → k < length old → All (λ x. x ≤ most_sum) old
    → ((m : ℕ) → get_or loads m 0 ≡ get_or old m 0 + value_at (take e u) m) → get_or loads k 0 ≤ most_sum
load_limit u old loads e k up below node within most each =
    omega (arith, load_before u old loads e k up below node each, All-get_or (λ x. x ≤ most_sum) old k 0 within most)

-- with the value of the next entry added to its node's load
pub loaded_more : (u : List (ℕ × ℕ)) (old loads : List ℕ) (e k w : ℕ) → IsStrictlyIncreasing (map (λ (x : ℕ × ℕ). x.0) u) → e < length u
    → k ≡ (get_or u e (0, 0)).0 → k < length loads → w ≡ get_or loads k 0 + (get_or u e (0, 0)).1
    → ((m : ℕ) → get_or loads m 0 ≡ get_or old m 0 + value_at (take e u) m)
    → (m : ℕ) → get_or (set loads k w) m 0 ≡ get_or old m 0 + value_at (take (e + 1) u) m
loaded_more u old loads e k w up below node within sum each m =
    let next = next_value u e up below in
    let here : get_or (set loads k w) k 0 ≡ get_or old k 0 + value_at (take (e + 1) u) k =
    omega (arith, get_or-set_same loads k w 0 within, sum, load_before u old loads e k up below node each, ap (value_at (take (e + 1) u)) node, next.same) in
    ⊎_elim (λ same. ap (λ x. get_or (set loads k w) x 0) (sym same) ∙ here ∙ ap (λ x. get_or old x 0 + value_at (take (e + 1) u) x) same)
    (λ apart. get_or-set_other loads k m w 0 (λ same. apart (sym same)) ∙ each m
    ∙ ap (λ x. get_or old m 0 + x) (sym (next.other m (λ same. apart (node ∙ same)))))
    (cases_eq k m)
