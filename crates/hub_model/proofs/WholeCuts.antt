-- The duals of a cut list nodes, and their sums are within the limit of sums.
use Rattle.std.proofs.Common.{◌≡◌, ℕ, ◌+◌, ◌*◌, ◌<◌, ◌≤◌, nat_eq, List, [], ◌∷◌, length, get_or, map, sum_by, All, Contains, refl, ◌∙◌, arith}
use Rattle.std.proofs.Math.Nat.{mul-le-mul_left}
use Rattle.std.specs.List.{AllZip}
use Rattle.std.specs.List.Sorted.{IsStrictlyIncreasing}
use Rattle.std.proofs.lemmas.List.Elements.{All-nil, All-cons, All-head, All-tail, All-weaker, All-contains, All-from_get_or}
use Rattle.std.proofs.lemmas.List.Sums.{sum_by-le, get_or-le-sum_by}
use Rattle.hub_spec.specs.Limits.{most_nodes, most_cost}
use Rattle.hub_spec.specs.Problem.{Problem, IsProblem, commodities}
use Rattle.hub_spec.specs.Cuts.{Prices, value_at, total, IsCut, cut_by}
use Rattle.hub_spec.specs.Separation.{IsOrder, IsMinimalDual, IsSetCut}
use Rattle.hub_spec.proofs.Commodities.{length_commodities}
use Rattle.hub_spec.proofs.ListedValues.{next_value, first_value_within}
use Rattle.hub_spec.proofs.SetCuts.{value_within}
use Rattle.hub_spec.proofs.SumLemmas.{by_test}
use Rattle.hub_model.proofs.Turns.{order_nodes}
use Rattle.hub_model.specs.HubCuts.{ListNodes, HasLoadsWithin, most_sum}

-- the price and the values are within their limit, and the nodes are below the size
abbrev pub IsInRange : ℕ → Prices → Type 0
IsInRange size d = (d.a ≤ most_cost) × All (λ (e : ℕ × ℕ). (e.0 < size) × (e.1 ≤ most_cost)) d.u

-- ---- sums of duals in range

pub range_lists_nodes : (size : ℕ) (rows : List Prices) → All (IsInRange size) rows → ListNodes size rows
range_lists_nodes size rows range = record {
  each = All-weaker (IsInRange size) (λ (d : Prices). All (λ (e : ℕ × ℕ). e.0 < size) d.u)
      (λ d here. All-weaker (λ (e : ℕ × ℕ). (e.0 < size) × (e.1 ≤ most_cost)) (λ (e : ℕ × ℕ). e.0 < size) (λ e both. both.0) d.u here.1) rows range;
}

value_in_range : (size : ℕ) (u : List (ℕ × ℕ)) (k : ℕ) → All (λ (e : ℕ × ℕ). (e.0 < size) × (e.1 ≤ most_cost)) u → value_at u k ≤ most_cost
value_in_range size [] k range = omega arith
value_in_range size (e ∷ u) k range =
    by_test (nat_eq e.0 k) (λ t. rw t (All-head (λ (x : ℕ × ℕ). (x.0 < size) × (x.1 ≤ most_cost)) e u range).1)
    (λ t. rw t (value_in_range size u k (All-tail (λ (x : ℕ × ℕ). (x.0 < size) × (x.1 ≤ most_cost)) e u range)))

-- a sum over all commodities, of numbers within the limit
sum_within : (f : Prices → ℕ) (size : ℕ) (rows : List Prices) → size ≤ most_nodes → length rows ≡ size * size → All (λ d. f d ≤ most_cost) rows
    → sum_by f rows ≤ most_sum
sum_within f size rows small one_each within =
    let square : size * size ≤ most_nodes * most_nodes = omega (arith, mul-le-mul_left size small, mul-le-mul_left most_nodes small) in
    omega (arith, sum_by-le f most_cost rows within, one_each, square)

pub range_total : (size : ℕ) (rows : List Prices) → size ≤ most_nodes → length rows ≡ size * size → All (IsInRange size) rows
    → total (cut_by rows) ≤ most_sum
range_total size rows small one_each range =
    sum_within (λ d. d.a) size rows small one_each (All-weaker (IsInRange size) (λ (d : Prices). d.a ≤ most_cost) (λ d here. here.0) rows range)

pub range_loads : (size : ℕ) (rows : List Prices) → size ≤ most_nodes → length rows ≡ size * size → All (IsInRange size) rows
    → HasLoadsWithin (cut_by rows)
range_loads size rows small one_each range = record {
  each = λ k. sum_within (λ d. value_at d.u k) size rows small one_each
      (All-weaker (IsInRange size) (λ (d : Prices). value_at d.u k ≤ most_cost) (λ d here. value_in_range size d.u k here.1) rows range);
}

-- ---- the duals of a hub set's cut are in range

listed_within : (u : List (ℕ × ℕ)) (most : ℕ) → IsStrictlyIncreasing (map (λ (x : ℕ × ℕ). x.0) u) → ((k : ℕ) → value_at u k ≤ most)
    → All (λ (e : ℕ × ℕ). e.1 ≤ most) u
listed_within u most up within = All-from_get_or (λ (e : ℕ × ℕ). e.1 ≤ most) u (0, 0) (λ i below.
    let k = (get_or u i (0, 0)).0 in
    let next = next_value u i up below in
    omega (arith, next.same, first_value_within (i + 1) u k, within k))

minimal_in_range : (p : Problem) (hubs order : List ℕ) (c : ℕ × ℕ) (d : Prices) → IsProblem p → IsOrder p hubs order
    → IsMinimalDual p hubs order c d → d.a ≤ most_cost → IsInRange p.size d
minimal_in_range p hubs order c d ok is_order minimal low =
    let nodes : All (λ (e : ℕ × ℕ). e.0 < p.size) d.u = All-weaker (λ (e : ℕ × ℕ). Contains order e.0) (λ (e : ℕ × ℕ). e.0 < p.size)
    (λ e listed. All-contains (λ k. k < p.size) order e.0 (order_nodes p hubs order ok is_order) listed) d.u minimal.in_order in
    let values = listed_within d.u most_cost minimal.listed.ascend (λ k. omega (arith, low, value_within p hubs order c d k minimal)) in
    (low, λ i e below. (nodes i e below, values i e below))

minimals_in_range : (p : Problem) (hubs order : List ℕ) (cs : List (ℕ × ℕ)) (rows : List Prices) → IsProblem p → IsOrder p hubs order
    → AllZip (IsMinimalDual p hubs order) cs rows → All (λ (d : Prices). d.a ≤ most_cost) rows → All (IsInRange p.size) rows
minimals_in_range p hubs order [] [] ok is_order are low = All-nil (IsInRange p.size)
minimals_in_range p hubs order [] (d ∷ rows) ok is_order are low = absurd are
minimals_in_range p hubs order (c ∷ cs) [] ok is_order are low = absurd are
minimals_in_range p hubs order (c ∷ cs) (d ∷ rows) ok is_order are low =
    All-cons (IsInRange p.size) d rows
    (minimal_in_range p hubs order c d ok is_order are.0 (All-head (λ (x : Prices). x.a ≤ most_cost) d rows low))
    (minimals_in_range p hubs order cs rows ok is_order are.1 (All-tail (λ (x : Prices). x.a ≤ most_cost) d rows low))

pub set_cut_in_range : (p : Problem) (hubs order : List ℕ) (rows : List Prices) → IsProblem p → IsOrder p hubs order
    → IsSetCut p hubs order (cut_by rows) → IsCut p (cut_by rows) → All (IsInRange p.size) rows
set_cut_in_range p hubs order rows ok is_order are cut =
    let price : Prices → ℕ = λ d. d.a in
    let none : Prices = record { a = 0; u = [] } in
    minimals_in_range p hubs order (commodities p.size) rows ok is_order are.duals
    (All-from_get_or (λ (d : Prices). d.a ≤ most_cost) rows none
    (λ i below. omega (arith, get_or-le-sum_by price rows i none below, cut.sums.total_limit)))

pub one_for_each : (p : Problem) (hubs order : List ℕ) (rows : List Prices) → IsSetCut p hubs order (cut_by rows) → length rows ≡ p.size * p.size
one_for_each p hubs order rows are = same_length (commodities p.size) rows are.duals ∙ length_commodities p.size
  where
    same_length : (cs : List (ℕ × ℕ)) (rows : List Prices) → AllZip (IsMinimalDual p hubs order) cs rows → length rows ≡ length cs
    same_length [] [] are = refl
    same_length [] (d ∷ rows) are = absurd are
    same_length (c ∷ cs) [] are = absurd are
    same_length (c ∷ cs) (d ∷ rows) are = omega (arith, same_length cs rows are.1)
