-- A value that meets all that routes ask of a node is at least the least value that the node may have.
use Rattle.std.proofs.Common.{◌≡◌, ℕ, zero, suc, ◌+◌, ◌-◌, ◌<◌, ◌≤◌, List, ◌++◌, length, get_or, take, map, Some, All, Contains, ⊎_elim, ap, sym, subst, ◌∙◌, arith}
use Rattle.std.proofs.lemmas.Bool.{cases_lt, false≢true}
use Rattle.std.proofs.lemmas.List.{get_or-take, get_or_default, length-take-le}
use Rattle.std.proofs.lemmas.List.Elements.{All-cons, All-append, All-map, All-contains, All-get_or}
use Rattle.hub_spec.specs.Problem.{Problem}
use Rattle.hub_spec.specs.Edges.{single_cost, edge_cost}
use Rattle.hub_spec.specs.Plans.{IsHubSet}
use Rattle.hub_spec.specs.Cuts.{Prices, value_at, IsDual}
use Rattle.hub_spec.specs.Separation.{single_ask, edge_ask, asks, asked_value, IsOrder, IsMinimalDual}
use Rattle.hub_spec.proofs.AskedValues.{greatest_within, asked_same}
use Rattle.hub_spec.proofs.SetCuts.{value_outside}
use Rattle.hub_spec.proofs.Sets.{All-from_contains, is_in, is_in-yes, Contains-from_is_in}
use Rattle.hub_spec.proofs.SumLemmas.{by_test}
use Rattle.hub_spec.proofs.Ways.{way_is, edge_is}
use Rattle.dual_cuts.proofs.CostAsks.{ask_low, ask_low_beside}

pub asked_least : (p : Problem) (hubs : List ℕ) (c : ℕ × ℕ) (a : ℕ) (values : ℕ → ℕ) (earlier : List ℕ) (k v : ℕ)
    → single_ask p c a k ≤ v
    → ((m : ℕ) → Contains hubs m → edge_ask p c a k m ≤ v)
    → ((m : ℕ) → Contains earlier m → edge_ask p c a k m - values m ≤ v)
    → asked_value p hubs c a values earlier k ≤ v
unfolding asked_value
asked_least p hubs c a values earlier k v alone by_hub by_earlier =
    let front = map (edge_ask p c a k) hubs in
    let back = map (λ m. edge_ask p c a k m - values m) earlier in
    let hub = All-map (λ x. x ≤ v) (edge_ask p c a k) hubs (All-from_contains (λ m. edge_ask p c a k m ≤ v) hubs by_hub) in
    let before = All-map (λ x. x ≤ v) (λ m. edge_ask p c a k m - values m) earlier
    (All-from_contains (λ m. edge_ask p c a k m - values m ≤ v) earlier by_earlier) in
    greatest_within v (asks p hubs c a values earlier k)
    (All-cons (λ x. x ≤ v) (single_ask p c a k) (front ++ back) alone (All-append (λ x. x ≤ v) front back hub before))

-- ---- no feasible dual is below the minimal one

-- a feasible dual covers each edge that is there
edge_covered : (p : Problem) (c : ℕ × ℕ) (e : Prices) (k m f : ℕ) → IsDual p 1 c e → Contains p.candidates k → Contains p.candidates m
    → (k ≡ m → ⊥) → edge_cost p c k m ≡ Some f → e.a ≤ f + value_at e.u k + value_at e.u m
edge_covered p c e k m f dual first last apart there =
    ⊎_elim (λ forth. omega (arith, forth.1, dual.two_hubs k m first last apart forth.0))
    (λ back. omega (arith, back.1, dual.two_hubs m k last first (λ same. apart (sym same)) back.0)) (edge_is p c k m f there)

-- the value that a feasible dual with nothing on the hubs gives a node meets all that routes ask of the node
dual_meets : (p : Problem) (hubs order : List ℕ) (c : ℕ × ℕ) (e : Prices) (earlier : List ℕ) (k : ℕ) → IsDual p 1 c e
    → Contains p.candidates k → ((m : ℕ) → Contains hubs m → Contains p.candidates m) → ((m : ℕ) → Contains hubs m → m ≡ k → ⊥)
    → ((m : ℕ) → Contains earlier m → Contains p.candidates m) → ((m : ℕ) → Contains earlier m → m ≡ k → ⊥)
    → All (λ m. value_at e.u m ≡ 0) hubs → asked_value p hubs c e.a (value_at e.u) earlier k ≤ value_at e.u k
dual_meets p hubs order c e earlier k dual candidate hub_is hub_other is other none =
    asked_least p hubs c e.a (value_at e.u) earlier k (value_at e.u k)
    (ask_low e.a (value_at e.u k) (single_cost p c k) (λ s there.
    let way = way_is p c k k s there in omega (arith, way.1, dual.one_hub k candidate way.0)))
    (λ m hub. let nothing = All-contains (λ x. value_at e.u x ≡ 0) hubs m none hub in
    ask_low e.a (value_at e.u k) (edge_cost p c k m) (λ f there.
    omega (arith, nothing, edge_covered p c e k m f dual candidate (hub_is m hub) (λ same. hub_other m hub (sym same)) there)))
    (λ m before. ask_low_beside e.a (value_at e.u m) (value_at e.u k) (edge_cost p c k m) (λ f there.
    omega (arith, edge_covered p c e k m f dual candidate (is m before) (λ same. other m before (sym same)) there)))

-- what a node is that comes earlier in an order than the node whose turn it is
pub record IsEarlier (p : Problem) (hubs order : List ℕ) (t m : ℕ) : Type 0 where
  pub candidate : Contains p.candidates m
  pub outside : Contains hubs m → ⊥
  pub other : m ≡ get_or order t 0 → ⊥

pub earlier_is : (p : Problem) (hubs order : List ℕ) (t m : ℕ) → IsOrder p hubs order → t < length order → Contains (take t order) m
    → IsEarlier p hubs order t m
earlier_is p hubs order t m is_order below (n, l, i) =
    let short : n < t = omega (arith, l, length-take-le t order (omega arith)) in
    let here : get_or order n 0 ≡ m = sym (get_or-take t order n 0 short) ∙ get_or_default (take t order) n 0 m l ∙ i in
    record {
      candidate = subst (Contains p.candidates) here (All-get_or (Contains p.candidates) order n 0 (omega arith) is_order.are_candidates);
      outside = subst (λ (x : ℕ). Contains hubs x → ⊥) here (All-get_or (λ k. Contains hubs k → ⊥) order n 0 (omega arith) is_order.outside);
      other = λ same. is_order.once n t short below (here ∙ same);
    }

-- the node whose turn it is is a candidate and no hub
pub turn_is : (p : Problem) (hubs order : List ℕ) (t : ℕ) → IsOrder p hubs order → t < length order
    → Contains p.candidates (get_or order t 0) × ((m : ℕ) → Contains hubs m → m ≡ get_or order t 0 → ⊥)
turn_is p hubs order t is_order below = (
  All-get_or (Contains p.candidates) order t 0 below is_order.are_candidates,
  λ m hub same. All-get_or (λ k. Contains hubs k → ⊥) order t 0 below is_order.outside (subst (Contains hubs) same hub),
)

turn_same : (p : Problem) (hubs order : List ℕ) (c : ℕ × ℕ) (d e : Prices) (t : ℕ) → IsHubSet p hubs → IsOrder p hubs order
    → IsMinimalDual p hubs order c d → IsDual p 1 c e → e.a ≡ d.a → All (λ k. value_at e.u k ≡ 0) hubs
    → ((k : ℕ) → value_at e.u k ≤ value_at d.u k) → t < length order
    → ((s : ℕ) → s < t → value_at e.u (get_or order s 0) ≡ value_at d.u (get_or order s 0))
    → value_at e.u (get_or order t 0) ≡ value_at d.u (get_or order t 0)
turn_same p hubs order c d e t set is_order minimal dual price none low below before =
    let k = get_or order t 0 in
    let turn = turn_is p hubs order t is_order below in
    let least = dual_meets p hubs order c e (take t order) k dual turn.0
    (λ m hub. All-contains (Contains p.candidates) hubs m set.are_candidates hub) turn.1
    (λ m earlier. (earlier_is p hubs order t m is_order below earlier).candidate) (λ m earlier. (earlier_is p hubs order t m is_order below earlier).other) none in
    let same = asked_same p hubs c e.a (value_at d.u) (value_at e.u) (take t order) k (λ m earlier. sym (agree m earlier)) in
    let priced = ap (λ (a : ℕ). asked_value p hubs c a (value_at d.u) (take t order) k) price in
    omega (arith, minimal.in_turn t below, least, same, priced, low k)
  where
    agree : (m : ℕ) → Contains (take t order) m → value_at e.u m ≡ value_at d.u m
    agree m (n, l, i) =
        let short : n < t = omega (arith, l, length-take-le t order (omega arith)) in
        let here : get_or order n 0 ≡ m = sym (get_or-take t order n 0 short) ∙ get_or_default (take t order) n 0 m l ∙ i in
        subst (λ (x : ℕ). value_at e.u x ≡ value_at d.u x) here (before n short)

turns_same : (p : Problem) (hubs order : List ℕ) (c : ℕ × ℕ) (d e : Prices) → IsHubSet p hubs → IsOrder p hubs order
    → IsMinimalDual p hubs order c d → IsDual p 1 c e → e.a ≡ d.a → All (λ k. value_at e.u k ≡ 0) hubs
    → ((k : ℕ) → value_at e.u k ≤ value_at d.u k) → (t : ℕ) → t ≤ length order
    → (s : ℕ) → s < t → value_at e.u (get_or order s 0) ≡ value_at d.u (get_or order s 0)
turns_same p hubs order c d e set is_order minimal dual price none low zero within s less = absurd (omega (arith, less))
turns_same p hubs order c d e set is_order minimal dual price none low (suc t) within s less =
    let before = turns_same p hubs order c d e set is_order minimal dual price none low t (omega (arith, within)) in
    ⊎_elim (λ earlier. before s earlier)
    (λ above. let here : t ≡ s = omega (arith, less, above) in
    subst (λ (x : ℕ). value_at e.u (get_or order x 0) ≡ value_at d.u (get_or order x 0)) here
    (turn_same p hubs order c d e t set is_order minimal dual price none low (omega (arith, within)) before)) (cases_lt s t)

pub none_below : (p : Problem) (hubs order : List ℕ) (c : ℕ × ℕ) (d e : Prices) → IsHubSet p hubs → IsOrder p hubs order
    → IsMinimalDual p hubs order c d → IsDual p 1 c e → e.a ≡ d.a → All (λ k. value_at e.u k ≡ 0) hubs
    → ((k : ℕ) → value_at e.u k ≤ value_at d.u k) → (k : ℕ) → value_at e.u k ≡ value_at d.u k
none_below p hubs order c d e set is_order minimal dual price none low k =
    by_test (is_in order k)
    (λ t. in_turn (Contains-from_is_in order k t))
    (λ t. let nothing = value_outside p hubs order c d k minimal (λ listed. false≢true (sym t ∙ is_in-yes order k listed)) in
    omega (arith, nothing, low k))
  where
    in_turn : Contains order k → value_at e.u k ≡ value_at d.u k
    in_turn (t, l, i) =
        let here : get_or order t 0 ≡ k = get_or_default order t 0 k l ∙ i in
        subst (λ (x : ℕ). value_at e.u x ≡ value_at d.u x) here
        (turns_same p hubs order c d e set is_order minimal dual price none low (length order) (omega arith) t l)
