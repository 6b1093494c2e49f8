-- A dual made of a balanced price and values is feasible and Pareto-optimal.
use Rattle.std.proofs.Common.{◌≡◌, ◌≢◌, ℕ, ◌+◌, ◌*◌, ◌/◌, ◌^◌, ◌<◌, ◌≤◌, Bool, true, cond, nat_eq, List, [], ◌∷◌, map, length, drop, filter, sum_by, All, Contains, None, ⊎_elim, refl, sym, ap, ◌∙◌, subst, eq-eqb, ne_eqb, lt-ltb, ℤ, mul-le-mul_left, arith}
use Rattle.std.specs.List.Sorted.{IsStrictlyIncreasing}
use Rattle.std.proofs.Math.Nat.{dvd-mul_right, mul-div_cancel'}
use Rattle.std.specs.Int.{◌∣◌}
use Rattle.std.proofs.lemmas.Bool.{cases_lt, cases_eq, false≢true}
use Rattle.std.proofs.lemmas.List.Elements.{All-contains, Contains-append_left, Contains-append_right}
use Rattle.std.proofs.lemmas.List.Sums.{sum_by-cons}
use Rattle.hub_spec.specs.Problem.{Problem, IsProblem, flow, route_cost}
use Rattle.hub_spec.specs.Edges.{least_cost}
use Rattle.core_spec.proofs.EdgeCosts.{pair_cost_is}
use Rattle.hub_spec.specs.Plans.{IsHubSet}
use Rattle.hub_spec.specs.Cuts.{Prices, value_at, IsDual}
use Rattle.hub_spec.proofs.SumLemmas.{by_test, sum_by-plus, sum_by-times, sum_by-same, Contains-cons_cases, nil_contains_none}
use Rattle.hub_spec.proofs.Sets.{is_in, part_is_filter, All-from_contains, Contains-head, Contains-later, ascend_tail, ascend_head}
use Rattle.core_spec.specs.CoreCuts.{Way, ways_cost, pair_cost, values_on, IsByFlow, IsCoreDual}
use Rattle.core_spec.proofs.Lengths.{pair_length, pair_length_costs}
use Rattle.core_spec.proofs.SetSums.{sum_by-below, sum_by-passing}
use Rattle.core_cuts.specs.CoreTables.{is_needed, pairs_of, core_edges, edge_right, through, counts, ways_of}
use Rattle.core_cuts.specs.RunTheorems.{IsBestCover, IsBalancedDual, IsMadeOf}

-- ---- costs by unit of flow

pub right_costs : (p : Problem) (c e : ℕ × ℕ) → p.longest ≡ None → flow p c.0 c.1 * edge_right p c e ≡ pair_cost p c e.0 e.1
right_costs p c e any = by_lengths (flow p c.0 c.1) (pair_length p c e.0 e.1) (pair_cost p c e.0 e.1) (pair_length_costs p c e.0 e.1 any)
  where
    by_lengths : (w long cost : ℕ) → w * long ≡ cost → w * (cost / w) ≡ cost
    by_lengths w long cost is = mul-div_cancel' w (subst (λ (n : ℕ). w ∣ n) is (dvd-mul_right w long))

ways_costs : (p : Problem) (c : ℕ × ℕ) (ways : List Way) → p.longest ≡ None
    → flow p c.0 c.1 * sum_by (λ (w : Way). w.2 * edge_right p c (w.0, w.1)) ways ≡ ways_cost p c ways
ways_costs p c [] any = omega arith
ways_costs p c (way ∷ ways) any =
    let f = flow p c.0 c.1 in
    let rights = ap (λ n. f * n) (sum_by-cons (λ (w : Way). w.2 * edge_right p c (w.0, w.1)) way ways) in
    let costs = sum_by-cons (λ (w : Way). w.2 * pair_cost p c w.0 w.1) way ways in
    let here = ap (λ n. way.2 * n) (right_costs p c (way.0, way.1) any) in
    omega (arith, rights, costs, here, ways_costs p c ways any)

-- ---- sums of values

counted_values : (p : Problem) (hubs : List ℕ) (turns : ℕ) (value : ℕ → ℕ) → IsProblem p → IsHubSet p hubs
    → sum_by (λ k. counts hubs turns k * value k) p.candidates ≡ sum_by value p.candidates + 2 * turns * sum_by value hubs
counted_values p hubs turns value ok set =
    let extra = λ (k : ℕ). 2 * turns * value k in
    let same = sum_by-same (λ k. counts hubs turns k * value k) (λ k. value k + cond (is_in hubs k) (extra k) 0) p.candidates
    (λ k. by_test (is_in hubs k) (λ e. rw e (omega arith)) (λ e. rw e (omega arith))) in
    let split = sum_by-plus value (λ k. cond (is_in hubs k) (extra k) 0) p.candidates in
    let at_hubs : sum_by (λ k. cond (is_in hubs k) (extra k) 0) p.candidates ≡ sum_by extra hubs =
    sum_by-passing extra (is_in hubs) p.candidates
    ∙ ap (sum_by extra) (part_is_filter p.candidates hubs ok.candidates_ascend set.ascend set.are_candidates) in
    omega (arith, same, split, at_hubs, sum_by-times (2 * turns) value hubs)

-- the value of one node of an ascending list, picked out of a sum
one_of : (value : ℕ → ℕ) (k : ℕ) (ks : List ℕ) → IsStrictlyIncreasing ks → sum_by (λ x. cond (nat_eq k x) (value x) 0) ks ≤ value k
one_of value k [] up = omega arith
one_of value k (m ∷ ks) up =
    let whole = sum_by-cons (λ (x : ℕ). cond (nat_eq k x) (value x) 0) m ks in
    ⊎_elim
    (λ same. (let rest = none_of value k ks (λ x c e. absurd (omega (arith, ascend_head m ks x up c, e, same))) in
    let here : cond (nat_eq k m) (value m) 0 ≡ value m = rw (eq-eqb k m same) refl in
    omega (arith, whole, here, rest, ap value same)))
    (λ other. (let here : cond (nat_eq k m) (value m) 0 ≡ 0 = rw (ne_eqb k m other) refl in
    omega (arith, whole, here, one_of value k ks (ascend_tail m ks up))))
    (cases_eq k m)
  where
    none_of : (f : ℕ → ℕ) (n : ℕ) (ms : List ℕ) → ((x : ℕ) → Contains ms x → n ≡ x → ⊥) → sum_by (λ x. cond (nat_eq n x) (f x) 0) ms ≡ 0
    none_of f n [] apart = refl
    none_of f n (x ∷ ms) apart =
        let whole = sum_by-cons (λ (z : ℕ). cond (nat_eq n z) (f z) 0) x ms in
        let here : cond (nat_eq n x) (f x) 0 ≡ 0 = rw (ne_eqb n x (apart x (Contains-head x ms))) refl in
        omega (arith, whole, here, none_of f n ms (λ z c. apart z (Contains-later x ms z c)))

-- the values of the nodes of a way
through_single : (value : ℕ → ℕ) (k : ℕ) (ks : List ℕ) → IsStrictlyIncreasing ks → sum_by (λ x. through (k, k) x * value x) ks ≤ value k
through_single value k ks up =
    let same = sum_by-same (λ x. through (k, k) x * value x) (λ x. cond (nat_eq k x) (value x) 0) ks
    (λ x. by_test (nat_eq k x) (λ e. rw e (omega arith)) (λ e. rw e (omega arith))) in
    omega (arith, same, one_of value k ks up)

through_edge : (value : ℕ → ℕ) (k m : ℕ) (ks : List ℕ) → IsStrictlyIncreasing ks → sum_by (λ x. through (k, m) x * value x) ks ≤ value k + value m
through_edge value k m ks up =
    let below = sum_by-below (λ x. through (k, m) x * value x) (λ x. cond (nat_eq k x) (value x) 0 + cond (nat_eq m x) (value x) 0) ks
    (λ x c. by_test (nat_eq k x) (λ e. rw e (omega arith)) (λ e. rw e (by_test (nat_eq m x) (λ f. rw f (omega arith)) (λ f. rw f (omega arith))))) in
    let split = sum_by-plus (λ x. cond (nat_eq k x) (value x) 0) (λ x. cond (nat_eq m x) (value x) 0) ks in
    omega (arith, below, split, one_of value k ks up, one_of value m ks up)

-- ---- the ways that the core problem has

Contains-mapped : (k : ℕ) (ks : List ℕ) (m : ℕ) → Contains ks m → Contains {X = ℕ × ℕ} (map (λ x. (k, x)) ks) (k, m)
Contains-mapped k [] m c = nil_contains_none m c
Contains-mapped k (x ∷ ks) m c =
    ⊎_elim (λ same. (0, omega arith, ap (λ z. (k, z)) same))
    (λ later. Contains-later (k, x) (map (λ z. (k, z)) ks) (k, m) (Contains-mapped k ks m later)) (Contains-cons_cases x ks m c)

single_among : (ks : List ℕ) (k : ℕ) → Contains ks k → Contains {X = ℕ × ℕ} (map (λ x. (x, x)) ks) (k, k)
single_among [] k c = nil_contains_none k c
single_among (x ∷ ks) k c =
    ⊎_elim (λ same. (0, omega arith, ap (λ z. (z, z)) same))
    (λ later. Contains-later (x, x) (map (λ z. (z, z)) ks) (k, k) (single_among ks k later)) (Contains-cons_cases x ks k c)

pair_among : (ks : List ℕ) (k m : ℕ) → IsStrictlyIncreasing ks → Contains ks k → Contains ks m → k < m → Contains (pairs_of ks) (k, m)
pair_among [] k m up in_k in_m less = nil_contains_none k in_k
pair_among (x ∷ ks) k m up in_k in_m less =
    ⊎_elim
    (λ first. (let later : Contains ks m = ⊎_elim (λ e. absurd (omega (arith, e, first, less))) (λ h. h) (Contains-cons_cases x ks m in_m) in
    Contains-append_left (map (λ z. (x, z)) ks) (pairs_of ks) (k, m)
    (subst (λ (z : ℕ). Contains {X = ℕ × ℕ} (map (λ w. (x, w)) ks) (z, m)) first (Contains-mapped x ks m later))))
    (λ later. (let other : Contains ks m = ⊎_elim (λ e. absurd (omega (arith, e, ascend_head x ks k up later, less))) (λ h. h) (Contains-cons_cases x ks m in_m) in
    Contains-append_right (map (λ z. (x, z)) ks) (pairs_of ks) (k, m) (pair_among ks k m (ascend_tail x ks up) later other less)))
    (Contains-cons_cases x ks k in_k)

kept_by : (test : ℕ × ℕ → Bool) (es : List (ℕ × ℕ)) (e : ℕ × ℕ) → Contains es e → test e ≡ true → Contains (filter test es) e
kept_by test [] e c passes = nil_contains_none e c
kept_by test (x ∷ es) e c passes =
    by_test (test x)
    (λ yes_x. rw yes_x (⊎_elim (λ same. (0, omega arith, same))
    (λ later. Contains-later x (filter test es) e (kept_by test es e later passes)) (Contains-cons_cases x es e c)))
    (λ no_x. rw no_x (⊎_elim (λ same. absurd (false≢true (sym no_x ∙ ap test same ∙ passes)))
    (λ later. kept_by test es e later passes) (Contains-cons_cases x es e c)))

single_asked : (p : Problem) (c : ℕ × ℕ) (k : ℕ) → Contains p.candidates k → Contains (core_edges p c) (k, k)
unfolding core_edges
single_asked p c k here =
    Contains-append_left (map (λ x. (x, x)) p.candidates) (filter (is_needed p c) (pairs_of p.candidates)) (k, k) (single_among p.candidates k here)

edge_asked : (p : Problem) (c : ℕ × ℕ) (k m : ℕ) → IsProblem p → Contains p.candidates k → Contains p.candidates m → k < m
    → pair_cost p c k m < pair_cost p c k k → pair_cost p c k m < pair_cost p c m m → Contains (core_edges p c) (k, m)
unfolding core_edges
edge_asked p c k m ok in_k in_m less first last =
    let needed : is_needed p c (k, m) ≡ true = rw (lt-ltb (pair_cost p c k m) (pair_cost p c k k) first) (lt-ltb (pair_cost p c k m) (pair_cost p c m m) last) in
    Contains-append_right (map (λ x. (x, x)) p.candidates) (filter (is_needed p c) (pairs_of p.candidates)) (k, m)
    (kept_by (is_needed p c) (pairs_of p.candidates) (k, m) (pair_among p.candidates k m ok.candidates_ascend in_k in_m less) needed)

-- ---- feasible

-- times the flow
flow_step : (w price part right sum cost a total : ℕ) → price ≤ part * right + sum → w * right ≡ cost → w * price ≡ a → w * sum ≤ total
    → a ≤ part * cost + total
flow_step w price part right sum cost a total unit costs is sums =
    let m = mul-le-mul_left w unit in
    let e = ap (λ n. part * n) costs in
    omega (arith, m, e, is, sums)

module _ (p : Problem) (hubs : List ℕ) (c : ℕ × ℕ) (part price v : ℕ) (value : ℕ → ℕ) (dual : Prices) (ok : IsProblem p) (any : p.longest ≡ None)
    (feasible : All (λ e. price ≤ part * edge_right p c e + sum_by (λ k. through e k * value k) p.candidates) (core_edges p c))
    (made : IsMadeOf p hubs c part price v value dual) where
  single_feasible : (k : ℕ) → Contains p.candidates k → dual.a ≤ part * pair_cost p c k k + value_at dual.u k
  single_feasible k here =
      let unit = All-contains (λ e. price ≤ part * edge_right p c e + sum_by (λ x. through e x * value x) p.candidates) (core_edges p c) (k, k) feasible (single_asked p c k here) in
      let sums = mul-le-mul_left (flow p c.0 c.1) (through_single value k p.candidates ok.candidates_ascend) in
      flow_step (flow p c.0 c.1) price part (edge_right p c (k, k)) (sum_by (λ x. through (k, k) x * value x) p.candidates) (pair_cost p c k k) dual.a (value_at dual.u k)
      unit (right_costs p c (k, k) any) (sym made.price_is) (omega (arith, sums, made.values_are k here))

  edge_feasible : (k m : ℕ) → Contains p.candidates k → Contains p.candidates m → k < m
      → dual.a ≤ part * pair_cost p c k m + (value_at dual.u k + value_at dual.u m)
  edge_feasible k m in_k in_m less =
      ⊎_elim
      (λ first. ⊎_elim
      (λ last. (let unit = All-contains (λ e. price ≤ part * edge_right p c e + sum_by (λ x. through e x * value x) p.candidates) (core_edges p c) (k, m) feasible
      (edge_asked p c k m ok in_k in_m less first last) in
      let sums = mul-le-mul_left (flow p c.0 c.1) (through_edge value k m p.candidates ok.candidates_ascend) in
      flow_step (flow p c.0 c.1) price part (edge_right p c (k, m)) (sum_by (λ x. through (k, m) x * value x) p.candidates) (pair_cost p c k m) dual.a
      (value_at dual.u k + value_at dual.u m) unit (right_costs p c (k, m) any) (sym made.price_is)
      (omega (arith, sums, made.values_are k in_k, made.values_are m in_m))))
      (λ dear. (let m2 = mul-le-mul_left part dear in omega (arith, single_feasible m in_m, m2)))
      (cases_lt (pair_cost p c k m) (pair_cost p c m m)))
      (λ dear. (let m1 = mul-le-mul_left part dear in omega (arith, single_feasible k in_k, m1)))
      (cases_lt (pair_cost p c k m) (pair_cost p c k k))

  both_feasible : (k m : ℕ) → Contains p.candidates k → Contains p.candidates m → k ≢ m
      → dual.a ≤ part * pair_cost p c k m + (value_at dual.u k + value_at dual.u m)
  both_feasible k m in_k in_m apart =
      ⊎_elim (λ less. edge_feasible k m in_k in_m less)
      (λ not_less. (let back = edge_feasible m k in_m in_k (omega (arith, apart, not_less)) in
      let same : pair_cost p c m k ≡ pair_cost p c k m = omega (arith, pair_cost_is p c m k any, pair_cost_is p c k m any) in
      let e = ap (λ n. part * n) same in
      omega (arith, back, e)))
      (cases_lt k m)

  single_is : (k : ℕ) → pair_cost p c k k ≡ route_cost p c.0 c.1 k k
  single_is k = pair_cost_is p c k k any ∙ omega arith

  is_feasible : IsDual p part c dual
  is_feasible = record {
    are_candidates = made.are_candidates;
    one_hub = λ k in_k allowed. (let single = single_feasible k in_k in let e = ap (λ n. part * n) (single_is k) in omega (arith, single, e));
    two_hubs = λ k m in_k in_m apart allowed.
        (let edge = both_feasible k m in_k in_m apart in
        let lesser : pair_cost p c k m ≤ route_cost p c.0 c.1 k m = omega (arith, pair_cost_is p c k m any) in
        let e = mul-le-mul_left part lesser in
        omega (arith, edge, e));
  }

-- ---- a Pareto-optimal dual

equal_step : (w g t e price v sc sh cost a least total whole : ℕ) → price ≡ e * v + sh
    → g * ((2 + 2 * t) * price) ≡ g * (sc + 2 * t * sh) + e * cost → w * price ≡ a → w * v ≡ least → w * sc ≡ total → w * cost ≡ whole
    → g * (2 * a + 2 * t * (e * least)) ≡ e * whole + g * total
equal_step w g t e price v sc sh cost a least total whole tight balanced is_a is_least is_total is_whole =
    let b = ap (λ n. w * n) balanced in
    let h = ap (λ n. w * (g * (2 * t * n))) tight in
    let ea = ap (λ n. g * n) is_a in
    let el = ap (λ n. g * (2 * t * (e * n))) is_least in
    let et = ap (λ n. g * n) is_total in
    let ew = ap (λ n. e * n) is_whole in
    omega (arith, b, h, ea, el, et, ew)

tight_step : (w e price v sh a least total : ℕ) → price ≡ e * v + sh → w * price ≡ a → w * v ≡ least → w * sh ≡ total → a ≡ e * least + total
tight_step w e price v sh a least total tight is_a is_least is_total =
    let b = ap (λ n. w * n) tight in
    let el = ap (λ n. e * n) is_least in
    omega (arith, b, is_a, el, is_total)

by_flow : (w x : ℕ) (y : ℕ) → y ≡ w * x → x ≤ 10 ^ 20 → IsByFlow w y
by_flow w x y is few = record {
  divides = subst (λ (n : ℕ). w ∣ n) (sym is) (dvd-mul_right w x);
  limit = (let m = mul-le-mul_left w few in omega (arith, m, is));
}

values_times : (w : ℕ) (value : ℕ → ℕ) (dual : Prices) (ks : List ℕ) → ((k : ℕ) → Contains ks k → value_at dual.u k ≡ w * value k)
    → w * sum_by value ks ≡ values_on dual ks
values_times w value dual [] are = omega arith
values_times w value dual (k ∷ ks) are =
    let whole = ap (λ n. w * n) (sum_by-cons value k ks) in
    omega (
      arith,
      whole,
      sum_by-cons (value_at dual.u) k ks,
      are k (Contains-head k ks),
      values_times w value dual ks (λ m c. are m (Contains-later k ks m c)),
    )

pub balanced_is_core : (p : Problem) (hubs : List ℕ) (c : ℕ × ℕ) (part price v : ℕ) (value : ℕ → ℕ) (dual : Prices) (row : List ℤ) (scale : ℕ)
    → IsProblem p → p.longest ≡ None → IsHubSet p hubs → IsBestCover p hubs c row scale
    → IsBalancedDual p hubs c part price value scale (ways_of (core_edges p c) (drop (length p.candidates + 1) row))
    → IsMadeOf p hubs c part price v value dual
    → IsDual p part c dual × IsCoreDual p hubs part c dual (record {
      turns = length p.candidates;
      scale = scale;
      ways = ways_of (core_edges p c) (drop (length p.candidates + 1) row);
    })
balanced_is_core p hubs c part price v value dual row scale ok any set cover balanced made =
    let w = flow p c.0 c.1 in
    let turns = length p.candidates in
    let ways = ways_of (core_edges p c) (drop (turns + 1) row) in
    let at_hubs = values_times w value dual hubs (λ k hub. made.values_are k (All-contains (Contains p.candidates) hubs k set.are_candidates hub)) in
    let at_all = values_times w value dual p.candidates made.values_are in
    let counted = ap (λ n. scale * n + part * sum_by (λ (x : Way). x.2 * edge_right p c (x.0, x.1)) ways) (counted_values p hubs turns value ok set) in (
      is_feasible p hubs c part price v value dual ok any balanced.feasible made,
      record {
        price_by_flow = by_flow w price dual.a made.price_is made.price_limit;
        values_by_flow = All-from_contains (λ k. IsByFlow w (value_at dual.u k)) p.candidates
            (λ k here. by_flow w (value k) (value_at dual.u k) (made.values_are k here) (All-contains (λ x. value x ≤ 10 ^ 20) p.candidates k made.value_limit here));
        tight = tight_step w part price v (sum_by value hubs) dual.a (least_cost p hubs c) (values_on dual hubs) made.tight (sym made.price_is) made.least at_hubs;
        cover = cover.cover;
        equal = equal_step w scale turns part price v (sum_by value p.candidates) (sum_by value hubs) (sum_by (λ (x : Way). x.2 * edge_right p c (x.0, x.1)) ways)
            dual.a (least_cost p hubs c) (values_on dual p.candidates) (ways_cost p c ways) made.tight (balanced.balanced ∙ counted)
            (sym made.price_is) made.least at_all (ways_costs p c ways any);
      },
    )
