-- The values of the nodes of an order as far as they are worked out.
use Rattle.std.proofs.Common.{◌≡◌, ℕ, ◌+◌, ◌<◌, ◌≤◌, List, [], ◌∷◌, ◌++◌, length, get_or, take, set, slice_index, nat_eq, All, Contains, ⊎_elim, ap, ap₂, sym, subst, ◌∙◌, append_assoc, append-nil, eqb-true, arith}
use Rattle.std.proofs.lemmas.Bool.{eqb-false, cases_lt}
use Rattle.std.proofs.lemmas.List.{take_more, get_or-set_same, get_or-set_other, get_or_past}
use Rattle.std.proofs.lemmas.List.Elements.{All-weaker, All-contains, All-get_or, All-from_get_or}
use Rattle.hub_spec.specs.Limits.{most_cost}
use Rattle.hub_spec.specs.Problem.{Problem, IsProblem}
use Rattle.hub_spec.specs.Edges.{IsLeastCost, least_cost}
use Rattle.hub_spec.specs.Plans.{HasRoute}
use Rattle.hub_spec.specs.Cuts.{Prices}
use Rattle.hub_spec.specs.Separation.{IsOrder, IsMinimalDual, asked_value, with_value, turn_values, values_listed, minimal_dual}
use Rattle.hub_spec.proofs.SumLemmas.{by_test}
use Rattle.hub_spec.proofs.AskedValues.{asked_same, asked_within}
use Rattle.hub_spec.proofs.SetCutFunction.{least_cost_is, price_same, minimal_dual_is}
use Rattle.hub_model.specs.Values.{AreInTurn}
use Rattle.hub_model.proofs.ListedValues.{listed_same}

pub order_nodes : (p : Problem) (hubs order : List ℕ) → IsProblem p → IsOrder p hubs order → All (λ k. k < p.size) order
order_nodes p hubs order ok is_order =
    All-weaker (Contains p.candidates) (λ k. k < p.size)
    (λ k c. All-contains (λ m. m < p.size) p.candidates k ok.candidates_are_nodes c) order is_order.are_candidates

pub order_node : (p : Problem) (hubs order : List ℕ) (t : ℕ) → IsProblem p → IsOrder p hubs order → t < length order
    → slice_index order t < p.size
order_node p hubs order t ok is_order below = All-get_or (λ k. k < p.size) order t 0 below (order_nodes p hubs order ok is_order)

pub turns_start : (p : Problem) (hubs : List ℕ) (c : ℕ × ℕ) (a : ℕ) (values : List ℕ) → All (λ v. v ≡ 0) values
    → AreInTurn p hubs [] c a values
turns_start p hubs c a values none = record { each = λ k. none_at k }
  where
    none_at : (k : ℕ) → slice_index values k ≡ 0
    none_at k = ⊎_elim (λ within. All-get_or (λ v. v ≡ 0) values k 0 within none) (λ past. get_or_past values k 0 past) (cases_lt k (length values))

-- one node more at the end of those that have had their turns
turns_push : (p : Problem) (hubs : List ℕ) (c : ℕ × ℕ) (a : ℕ) (values : ℕ → ℕ) (earlier rest : List ℕ) (k m : ℕ)
    → turn_values p hubs c a values earlier (rest ++ k ∷ []) m
    ≡ with_value (turn_values p hubs c a values earlier rest) k
    (asked_value p hubs c a (turn_values p hubs c a values earlier rest) (earlier ++ rest) k) m
turns_push p hubs c a values earlier [] k m =
    ap (λ ks. with_value values k (asked_value p hubs c a values ks k) m) (sym (append-nil earlier))
turns_push p hubs c a values earlier (x ∷ xs) k m =
    let turns = turn_values p hubs c a (with_value values x (asked_value p hubs c a values earlier x)) (earlier ++ x ∷ []) xs in
    turns_push p hubs c a (with_value values x (asked_value p hubs c a values earlier x)) (earlier ++ x ∷ []) xs k m
    ∙ ap (λ ks. with_value turns k (asked_value p hubs c a turns ks k) m) (append_assoc earlier (x ∷ []) xs)

-- a value that is set in a list, by node
set_is : (values : List ℕ) (k v m : ℕ) → k < length values → slice_index (set values k v) m ≡ with_value (slice_index values) k v m
set_is values k v m within =
    by_test (nat_eq k m)
    (λ e. rw e (ap (λ x. get_or (set values k v) x 0) (sym (eqb-true k m e)) ∙ get_or-set_same values k v 0 within))
    (λ e. rw e (get_or-set_other values k m v 0 (λ same. eqb-false k m e (sym same))))

-- the next node gets the least value that it may have
pub turns_more : (p : Problem) (hubs order : List ℕ) (c : ℕ × ℕ) (a : ℕ) (values : List ℕ) (t v : ℕ) → t < length order
    → slice_index order t < length values → AreInTurn p hubs (take t order) c a values
    → v ≡ asked_value p hubs c a (slice_index values) (take t order) (slice_index order t)
    → AreInTurn p hubs (take (t + 1) order) c a (set values (slice_index order t) v)
turns_more p hubs order c a values t v below node so_far asked = record {
  each = λ m. set_is values k v m node ∙ same m ∙ sym (turns_push p hubs c a (λ _. 0) [] (take t order) k m)
      ∙ ap (λ ks. turn_values p hubs c a (λ _. 0) [] ks m) (sym (take_more order t 0 below));
}
  where
    k : ℕ
    k = slice_index order t

    turns : ℕ → ℕ
    turns = turn_values p hubs c a (λ _. 0) [] (take t order)

    is : v ≡ asked_value p hubs c a turns (take t order) k
    is = asked ∙ asked_same p hubs c a (slice_index values) turns (take t order) k (λ m before. so_far.each m)

    same : (m : ℕ) → with_value (slice_index values) k v m ≡ with_value turns k (asked_value p hubs c a turns (take t order) k) m
    same m = by_test (nat_eq k m) (λ e. rw e is) (λ e. rw e (so_far.each m))

-- values in turn are within the price
turn_within : (p : Problem) (hubs : List ℕ) (c : ℕ × ℕ) (a : ℕ) (values : ℕ → ℕ) (earlier rest : List ℕ) (k : ℕ)
    → ((m : ℕ) → values m ≤ a) → turn_values p hubs c a values earlier rest k ≤ a
turn_within p hubs c a values earlier [] k low = low k
turn_within p hubs c a values earlier (x ∷ xs) k low =
    turn_within p hubs c a (with_value values x (asked_value p hubs c a values earlier x)) (earlier ++ x ∷ []) xs k
    (λ m. by_test (nat_eq x m) (λ e. rw e (asked_within p hubs c a values earlier x)) (λ e. rw e (low m)))

pub turns_within : (p : Problem) (hubs order : List ℕ) (c : ℕ × ℕ) (a : ℕ) (values : List ℕ) → a ≤ most_cost
    → AreInTurn p hubs order c a values → All (λ v. v ≤ most_cost) values
turns_within p hubs order c a values low turns =
    All-from_get_or (λ v. v ≤ most_cost) values 0
    (λ k below. omega (arith, low, turns.each k, turn_within p hubs c a (λ _. 0) [] order k (λ m. omega arith)))

-- the dual that lists them is the minimal one
pub listed_is : (p : Problem) (hubs order : List ℕ) (c : ℕ × ℕ) (a : ℕ) (values : List ℕ) → HasRoute p hubs c → IsLeastCost p hubs c a
    → AreInTurn p hubs order c a values
    → record { a = a; u = values_listed (slice_index values) p.candidates } ≡ minimal_dual p hubs order c
unfolding minimal_dual
listed_is p hubs order c a values has price turns =
    let same : a ≡ least_cost p hubs c = price_same p hubs c a (least_cost p hubs c) price (least_cost_is p hubs c has) in
    ap₂ (λ (x : ℕ) (u : List (ℕ × ℕ)). record { a = x; u = u }) same
    (listed_same (slice_index values) (turn_values p hubs c (least_cost p hubs c) (λ _. 0) [] order) p.candidates
    (λ k. turns.each k ∙ ap (λ (x : ℕ). turn_values p hubs c x (λ _. 0) [] order k) same))

pub minimal_from : (p : Problem) (hubs order : List ℕ) (c : ℕ × ℕ) (d : Prices) → IsProblem p → HasRoute p hubs c → IsOrder p hubs order
    → d ≡ minimal_dual p hubs order c → IsMinimalDual p hubs order c d
minimal_from p hubs order c d ok has is_order same =
    subst (IsMinimalDual p hubs order c) (sym same) (minimal_dual_is p hubs order c ok has is_order)
