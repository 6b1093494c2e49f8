-- The ways of a proof stand in order.
use Rattle.std.proofs.Common.{◌≡◌, ℕ, suc, ◌+◌, ◌<◌, ◌≤◌, true, nat_eq, nat_lt, inl, inr, List, [], ◌∷◌, ◌++◌, length, map, filter, flat_map, get_or, drop, All, Contains, ℤ, unsigned_abs, sym, ◌∙◌, subst, eqb-true, ltb-true, true≢false, arith}
use Rattle.std.specs.List.{AllPairs}
use Rattle.std.specs.List.Sorted.{IsStrictlyIncreasing}
use Rattle.std.proofs.lemmas.List.Kept.{AllPairs-cons, AllPairs-filter}
use Rattle.std.proofs.lemmas.List.Elements.{All-nil, All-cons, All-head, All-tail, All-append, All-filter, All-weaker, All-map, filter_passes, All-get_or, All-contains}
use Rattle.hub_spec.specs.Problem.{Problem, IsProblem}
use Rattle.hub_spec.proofs.SumLemmas.{by_test}
use Rattle.hub_spec.proofs.Sets.{All-from_contains, Contains-head, Contains-later, ascend_tail, ascend_head}
use Rattle.frac_rows.specs.Rows.{objective}
use Rattle.core_spec.specs.CoreCuts.{Way}
use Rattle.core_cuts.specs.CoreTables.{is_needed, pairs_of, core_edges, ways_of, begins_at, ordered_ways}
use Rattle.core_cuts.specs.Readings.{ways_at, core_run, proof_of, found_of, FoundDual}
use Rattle.core_spec.specs.MarkRanges.{IsWayBefore}
use Rattle.core_cuts.specs.Theorems.{IsLineWay, FoundInOrder}

-- ---- pairs of a list

module _ {X : Type 0} (R : X → X → Type 0) where
  pairs_nil : AllPairs R []
  pairs_nil i j d less within = absurd (omega arith)

  pairs_head : (x : X) (xs : List X) → AllPairs R (x ∷ xs) → All (R x) xs
  pairs_head x xs each k d l = each 0 (suc k) d (omega arith) (omega arith)

  pairs_tail : (x : X) (xs : List X) → AllPairs R (x ∷ xs) → AllPairs R xs
  pairs_tail x xs each i j d less within = each (suc i) (suc j) d (omega arith) (omega arith)

  pairs_append : (xs ys : List X) → AllPairs R xs → AllPairs R ys → All (λ x. All (R x) ys) xs → AllPairs R (xs ++ ys)
  pairs_append [] ys one other across = other
  pairs_append (x ∷ xs) ys one other across =
      AllPairs-cons R x (xs ++ ys)
      (All-append (R x) xs ys (pairs_head x xs one) (All-head (λ y. All (R y) ys) x xs across))
      (pairs_append xs ys (pairs_tail x xs one) other (All-tail (λ y. All (R y) ys) x xs across))

-- ---- the edges

-- of two edges that begin at one node the first ends before the other
abbrev IsEdgeBefore : ℕ × ℕ → ℕ × ℕ → Type 0
IsEdgeBefore e f = e.0 ≡ f.0 → e.1 < f.1

-- an edge begins at one of these nodes, and ends behind it
record IsForward (ks : List ℕ) (e : ℕ × ℕ) : Type 0 where
  begins : Contains ks e.0
  ends : e.0 < e.1

pairs_forward : (ks : List ℕ) → IsStrictlyIncreasing ks → All (IsForward ks) (pairs_of ks)
pairs_forward [] up = All-nil (IsForward [])
pairs_forward (k ∷ ks) up =
    All-append (IsForward (k ∷ ks)) (map (λ m. (k, m)) ks) (pairs_of ks)
    (All-map (IsForward (k ∷ ks)) (λ m. (k, m)) ks (All-from_contains (λ m. IsForward (k ∷ ks) (k, m)) ks
    (λ m here. record { begins = Contains-head k ks; ends = ascend_head k ks m up here })))
    (All-weaker (IsForward ks) (IsForward (k ∷ ks)) (λ e is. record { begins = Contains-later k ks e.0 is.begins; ends = is.ends })
    (pairs_of ks) (pairs_forward ks (ascend_tail k ks up)))

fan_ascends : (k : ℕ) (ks : List ℕ) → IsStrictlyIncreasing ks → AllPairs IsEdgeBefore (map (λ m. (k, m)) ks)
fan_ascends k [] up = pairs_nil IsEdgeBefore
fan_ascends k (m ∷ ms) up =
    AllPairs-cons IsEdgeBefore (k, m) (map (λ n. (k, n)) ms)
    (All-map (IsEdgeBefore (k, m)) (λ n. (k, n)) ms (All-from_contains (λ n. IsEdgeBefore (k, m) (k, n)) ms (λ n here same. ascend_head m ms n up here)))
    (fan_ascends k ms (ascend_tail m ms up))

pairs_ascend : (ks : List ℕ) → IsStrictlyIncreasing ks → AllPairs IsEdgeBefore (pairs_of ks)
pairs_ascend [] up = pairs_nil IsEdgeBefore
pairs_ascend (k ∷ ks) up =
    let behind = pairs_forward ks (ascend_tail k ks up) in
    pairs_append IsEdgeBefore (map (λ m. (k, m)) ks) (pairs_of ks) (fan_ascends k ks (ascend_tail k ks up)) (pairs_ascend ks (ascend_tail k ks up))
    (All-map (λ e. All (IsEdgeBefore e) (pairs_of ks)) (λ m. (k, m)) ks (All-from_contains (λ m. All (IsEdgeBefore (k, m)) (pairs_of ks)) ks
    (λ m here. All-weaker (IsForward ks) (IsEdgeBefore (k, m))
    (λ e is same. (let above = ascend_head k ks e.0 up is.begins in absurd (omega (arith, above, same)))) (pairs_of ks) behind)))

singles_ascend : (ks : List ℕ) → IsStrictlyIncreasing ks → AllPairs IsEdgeBefore (map (λ k. (k, k)) ks)
singles_ascend [] up = pairs_nil IsEdgeBefore
singles_ascend (k ∷ ks) up =
    AllPairs-cons IsEdgeBefore (k, k) (map (λ m. (m, m)) ks)
    (All-map (IsEdgeBefore (k, k)) (λ m. (m, m)) ks (All-from_contains (λ m. IsEdgeBefore (k, k) (m, m)) ks (λ m here same. ascend_head k ks m up here)))
    (singles_ascend ks (ascend_tail k ks up))

edges_ascend : (p : Problem) (c : ℕ × ℕ) → IsProblem p → AllPairs IsEdgeBefore (core_edges p c)
unfolding core_edges
edges_ascend p c ok =
    let ks = p.candidates in
    let up = ok.candidates_ascend in
    let needed = filter (is_needed p c) (pairs_of ks) in
    pairs_append IsEdgeBefore (map (λ k. (k, k)) ks) needed (singles_ascend ks up)
    (AllPairs-filter IsEdgeBefore (is_needed p c) (pairs_of ks) (pairs_ascend ks up))
    (All-map (λ e. All (IsEdgeBefore e) needed) (λ k. (k, k)) ks (All-from_contains (λ k. All (IsEdgeBefore (k, k)) needed) ks
    (λ k here. All-weaker (IsForward ks) (IsEdgeBefore (k, k)) (λ e is same. (let above = is.ends in omega (arith, above, same))) needed
    (All-filter (is_needed p c) (IsForward ks) (pairs_of ks) (pairs_forward ks up)))))

edges_forward : (p : Problem) (c : ℕ × ℕ) → IsProblem p → All (λ e. e.0 ≤ e.1) (core_edges p c)
unfolding core_edges
edges_forward p c ok =
    let ks = p.candidates in
    All-append (λ e. e.0 ≤ e.1) (map (λ k. (k, k)) ks) (filter (is_needed p c) (pairs_of ks))
    (All-map (λ e. e.0 ≤ e.1) (λ k. (k, k)) ks (λ k d l. omega arith))
    (All-filter (is_needed p c) (λ e. e.0 ≤ e.1) (pairs_of ks)
    (All-weaker (IsForward ks) (λ e. e.0 ≤ e.1) (λ e is. (let above = is.ends in omega (arith, above))) (pairs_of ks) (pairs_forward ks ok.candidates_ascend)))

-- ---- the ways by these edges

abbrev edge_of : Way → ℕ × ℕ
edge_of w = (w.0, w.1)

ways_all : (P : ℕ × ℕ → Type 0) (edges : List (ℕ × ℕ)) (numbers : List ℤ) → All P edges → All (λ (w : Way). P (edge_of w)) (ways_of edges numbers)
ways_all P [] numbers each = All-nil (λ (w : Way). P (edge_of w))
ways_all P (e ∷ edges) [] each = All-nil (λ (w : Way). P (edge_of w))
ways_all P (e ∷ edges) (y ∷ numbers) each =
    All-cons (λ (w : Way). P (edge_of w)) (e.0, e.1, unsigned_abs y) (ways_of edges numbers) (All-head P e edges each)
    (ways_all P edges numbers (All-tail P e edges each))

-- of two ways that begin at one node the first ends before the other
abbrev IsBefore : Way → Way → Type 0
IsBefore v w = IsEdgeBefore (edge_of v) (edge_of w)

ways_ascend : (edges : List (ℕ × ℕ)) (numbers : List ℤ) → AllPairs IsEdgeBefore edges → AllPairs IsBefore (ways_of edges numbers)
ways_ascend [] numbers up = pairs_nil IsBefore
ways_ascend (e ∷ edges) [] up = pairs_nil IsBefore
ways_ascend (e ∷ edges) (y ∷ numbers) up =
    AllPairs-cons IsBefore (e.0, e.1, unsigned_abs y) (ways_of edges numbers)
    (ways_all (IsEdgeBefore e) edges numbers (pairs_head IsEdgeBefore e edges up))
    (ways_ascend edges numbers (pairs_tail IsEdgeBefore e edges up))

-- ---- node by node

begins_there : (k : ℕ) (w : Way) → begins_at k w ≡ true → (w.0 ≡ k) × (1 ≤ w.2)
begins_there k w e =
    by_test (nat_eq w.0 k)
    (λ same. by_test (nat_lt 0 w.2) (λ some. (eqb-true w.0 k same, ltb-true 0 w.2 some)) (λ none. absurd (true≢false (sym (rw (same, none) at e)))))
    (λ apart. absurd (true≢false (sym (rw apart at e))))

group_begins : (k : ℕ) (ways : List Way) → All (λ (w : Way). (w.0 ≡ k) × (1 ≤ w.2)) (filter (begins_at k) ways)
group_begins k ways =
    All-weaker (λ (w : Way). begins_at k w ≡ true) (λ w. (w.0 ≡ k) × (1 ≤ w.2)) (begins_there k) (filter (begins_at k) ways) (filter_passes (begins_at k) ways)

group_ascends : (k : ℕ) (ways : List Way) → AllPairs IsBefore ways → AllPairs IsWayBefore (filter (begins_at k) ways)
group_ascends k ways up = by_begin (filter (begins_at k) ways) (group_begins k ways) (AllPairs-filter IsBefore (begins_at k) ways up)
  where
    by_begin : (ws : List Way) → All (λ (w : Way). (w.0 ≡ k) × (1 ≤ w.2)) ws → AllPairs IsBefore ws → AllPairs IsWayBefore ws
    by_begin ws there pairs i j d less within =
        let v = All-get_or (λ (w : Way). (w.0 ≡ k) × (1 ≤ w.2)) ws i d (omega (arith, less, within)) there in
        let w = All-get_or (λ (w : Way). (w.0 ≡ k) × (1 ≤ w.2)) ws j d within there in
        let same : (get_or ws i d).0 ≡ (get_or ws j d).0 = v.0 ∙ sym w.0 in
        inr (same, pairs i j d less within same)

among : (ways : List Way) (ks : List ℕ) → All (λ (w : Way). Contains ks w.0) (flat_map (λ k. filter (begins_at k) ways) ks)
among ways [] = All-nil (λ (w : Way). Contains [] w.0)
among ways (k ∷ ks) =
    All-append (λ (w : Way). Contains (k ∷ ks) w.0) (filter (begins_at k) ways) (flat_map (λ m. filter (begins_at m) ways) ks)
    (All-weaker (λ (w : Way). (w.0 ≡ k) × (1 ≤ w.2)) (λ w. Contains (k ∷ ks) w.0)
    (λ w is. subst (Contains (k ∷ ks)) (sym is.0) (Contains-head k ks)) (filter (begins_at k) ways) (group_begins k ways))
    (All-weaker (λ (w : Way). Contains ks w.0) (λ w. Contains (k ∷ ks) w.0) (λ w here. Contains-later k ks w.0 here)
    (flat_map (λ m. filter (begins_at m) ways) ks) (among ways ks))

groups_ascend : (ways : List Way) (ks : List ℕ) → IsStrictlyIncreasing ks → AllPairs IsBefore ways
    → AllPairs IsWayBefore (flat_map (λ k. filter (begins_at k) ways) ks)
groups_ascend ways [] up pairs = pairs_nil IsWayBefore
groups_ascend ways (k ∷ ks) up pairs =
    let rest = flat_map (λ m. filter (begins_at m) ways) ks in
    pairs_append IsWayBefore (filter (begins_at k) ways) rest (group_ascends k ways pairs) (groups_ascend ways ks (ascend_tail k ks up) pairs)
    (All-weaker (λ (w : Way). (w.0 ≡ k) × (1 ≤ w.2)) (λ v. All (IsWayBefore v) rest)
    (λ v is. All-weaker (λ (w : Way). Contains ks w.0) (IsWayBefore v)
    (λ w here. (let above = ascend_head k ks w.0 up here in let at = is.0 in inl (omega (arith, above, at)))) rest (among ways ks))
    (filter (begins_at k) ways) (group_begins k ways))

groups_some : (ways : List Way) (ks : List ℕ) → All (λ (w : Way). w.0 ≤ w.1) ways → All IsLineWay (flat_map (λ k. filter (begins_at k) ways) ks)
groups_some ways [] each = All-nil IsLineWay
groups_some ways (k ∷ ks) each =
    All-append IsLineWay (filter (begins_at k) ways) (flat_map (λ m. filter (begins_at m) ways) ks)
    (All-from_contains IsLineWay (filter (begins_at k) ways) (λ w here. record {
      nodes = All-contains (λ (v : Way). v.0 ≤ v.1) (filter (begins_at k) ways) w (All-filter (begins_at k) (λ (v : Way). v.0 ≤ v.1) ways each) here;
      some = (All-contains (λ (v : Way). (v.0 ≡ k) × (1 ≤ v.2)) (filter (begins_at k) ways) w (group_begins k ways) here).1;
    }))
    (groups_some ways ks each)

pub found_ordered : FoundInOrder
unfolding found_of proof_of ways_at ordered_ways
found_ordered p hubs c found asked (r, reading, fit, is) =
    let ok = asked.problem in
    let numbers = drop (length p.candidates + 1) (objective (core_run p hubs c).table) in
    let ways = ways_of (core_edges p c) numbers in
    subst (λ (d : FoundDual). AllPairs IsWayBefore d.proof.ways × All IsLineWay d.proof.ways) (sym is) (
      groups_ascend ways p.candidates ok.candidates_ascend (ways_ascend (core_edges p c) numbers (edges_ascend p c ok)),
      groups_some ways p.candidates (ways_all (λ e. e.0 ≤ e.1) (core_edges p c) numbers (edges_forward p c ok)),
    )
