-- Ways have the same sums in the order of a proof line.
use Rattle.std.proofs.Common.{◌≡◌, ℕ, ◌+◌, ◌*◌, ◌<◌, ◌≤◌, Bool, cond, nat_eq, nat_lt, ◌||◌, List, [], ◌∷◌, flat_map, filter, sum_by, All, Contains, ⊎_elim, refl, sym, ap, ◌∙◌, eq-eqb, ne_eqb, lt-ltb, arith}
use Rattle.std.specs.List.Sorted.{IsStrictlyIncreasing}
use Rattle.std.proofs.lemmas.Bool.{cases_lt}
use Rattle.std.proofs.lemmas.List.Elements.{All-head, All-tail, All-nil, All-append, All-filter, All-weaker}
use Rattle.std.proofs.lemmas.List.Sums.{sum_by-cons, sum_by-append}
use Rattle.hub_spec.specs.Problem.{Problem, IsProblem}
use Rattle.hub_spec.proofs.SumLemmas.{by_test, sum_by-plus, sum_by-same, Contains-cons_cases, nil_contains_none}
use Rattle.hub_spec.proofs.Sets.{ascend_tail, ascend_head, Contains-head, Contains-later}
use Rattle.core_spec.specs.CoreCuts.{Way, taken_at, taken_through, ways_cost, pair_cost, IsCover}
use Rattle.core_cuts.specs.CoreTables.{begins_at, ordered_ways}

-- ---- one node of an ascending list

none_counts : (x n : ℕ) (ks : List ℕ) → ((k : ℕ) → Contains ks k → n ≡ k → ⊥) → sum_by (λ k. cond (nat_eq n k) x 0) ks ≡ 0
none_counts x n [] apart = refl
none_counts x n (k ∷ ks) apart =
    let whole = sum_by-cons (λ (m : ℕ). cond (nat_eq n m) x 0) k ks in
    let here : cond (nat_eq n k) x 0 ≡ 0 = rw (ne_eqb n k (apart k (Contains-head k ks))) refl in
    omega (arith, whole, here, none_counts x n ks (λ m c. apart m (Contains-later k ks m c)))

one_counts : (x n : ℕ) (ks : List ℕ) → IsStrictlyIncreasing ks → Contains ks n → sum_by (λ k. cond (nat_eq n k) x 0) ks ≡ x
one_counts x n [] up c = nil_contains_none n c
one_counts x n (k ∷ ks) up c =
    let whole = sum_by-cons (λ (m : ℕ). cond (nat_eq n m) x 0) k ks in
    ⊎_elim
    (λ same. (let here : cond (nat_eq n k) x 0 ≡ x = rw (eq-eqb n k (sym same)) refl in
    omega (arith, whole, here, none_counts x n ks (λ m later e. absurd (omega (arith, ascend_head k ks m up later, same, e))))))
    (λ later. (let less = ascend_head k ks n up later in
    let here : cond (nat_eq n k) x 0 ≡ 0 = rw (ne_eqb n k (λ e. absurd (omega (arith, less, e)))) refl in
    omega (arith, whole, here, one_counts x n ks (ascend_tail k ks up) later)))
    (Contains-cons_cases k ks n c)

-- ---- sums over the ways, node by node

sum_by-flat_map : (g : Way → ℕ) (f : ℕ → List Way) (ks : List ℕ) → sum_by g (flat_map f ks) ≡ sum_by (λ k. sum_by g (f k)) ks
sum_by-flat_map g f [] = refl
sum_by-flat_map g f (k ∷ ks) =
    omega (
      arith,
      sum_by-append g (f k) (flat_map f ks),
      sum_by-cons (λ (m : ℕ). sum_by g (f m)) k ks,
      sum_by-flat_map g f ks,
    )

sum_by-filter : (g : Way → ℕ) (test : Way → Bool) (way : Way) (ways : List Way)
    → sum_by g (filter test (way ∷ ways)) ≡ cond (test way) (g way) 0 + sum_by g (filter test ways)
sum_by-filter g test way ways =
    by_test (test way) (λ e. rw e (sum_by-cons g way (filter test ways))) (λ e. rw e (omega arith))

none_at : (g : Way → ℕ) (ks : List ℕ) → sum_by (λ k. sum_by g (filter (begins_at k) [])) ks ≡ 0
none_at g [] = refl
none_at g (k ∷ ks) = omega (arith, sum_by-cons (λ (m : ℕ). sum_by g (filter (begins_at m) [])) k ks, none_at g ks)

-- where a way that is not taken counts nothing
by_nodes : (g : Way → ℕ) (ks : List ℕ) (ways : List Way) → IsStrictlyIncreasing ks → All (λ (w : Way). Contains ks w.0) ways
    → ((w : Way) → w.2 ≡ 0 → g w ≡ 0) → sum_by (λ k. sum_by g (filter (begins_at k) ways)) ks ≡ sum_by g ways
by_nodes g ks [] up among none = none_at g ks
by_nodes g ks (way ∷ ways) up among none =
    let here = All-head (λ (w : Way). Contains ks w.0) way ways among in
    let rest = by_nodes g ks ways up (All-tail (λ (w : Way). Contains ks w.0) way ways among) none in
    let spread = sum_by-same (λ k. sum_by g (filter (begins_at k) (way ∷ ways)))
    (λ k. cond (nat_eq way.0 k) (g way) 0 + sum_by g (filter (begins_at k) ways)) ks
    (λ k. sum_by-filter g (begins_at k) way ways ∙ ap (λ n. n + sum_by g (filter (begins_at k) ways)) (at k)) in
    let split = sum_by-plus (λ k. cond (nat_eq way.0 k) (g way) 0) (λ k. sum_by g (filter (begins_at k) ways)) ks in
    omega (arith, spread, split, one_counts (g way) way.0 ks up here, rest, sum_by-cons g way ways)
  where
    at : (k : ℕ) → cond (begins_at k way) (g way) 0 ≡ cond (nat_eq way.0 k) (g way) 0
    at k = by_test (nat_eq way.0 k)
        (λ e. rw e (⊎_elim (λ (some : 0 < way.2). rw (lt-ltb 0 way.2 some) refl)
        (λ (no : way.2 ≤ 0). (let zero_g = none way (omega arith) in rw zero_g (by_test (nat_lt 0 way.2) (λ f. rw f refl) (λ f. rw f refl)))) (cases_lt 0 way.2)))
        (λ e. rw e refl)

ordered_sum : (g : Way → ℕ) (nodes : List ℕ) (ways : List Way) → IsStrictlyIncreasing nodes → All (λ (w : Way). Contains nodes w.0) ways
    → ((w : Way) → w.2 ≡ 0 → g w ≡ 0) → sum_by g (ordered_ways nodes ways) ≡ sum_by g ways
unfolding ordered_ways
ordered_sum g nodes ways up among none =
    sum_by-flat_map g (λ k. filter (begins_at k) ways) nodes ∙ by_nodes g nodes ways up among none

ordered_all : (P : Way → Type 0) (nodes : List ℕ) (ways : List Way) → All P ways → All P (ordered_ways nodes ways)
unfolding ordered_ways
ordered_all P nodes ways each = by_list nodes
  where
    by_list : (ks : List ℕ) → All P (flat_map (λ k. filter (begins_at k) ways) ks)
    by_list [] = All-nil P
    by_list (k ∷ ks) = All-append P (filter (begins_at k) ways) (flat_map (λ m. filter (begins_at m) ways) ks) (All-filter (begins_at k) P ways each) (by_list ks)

-- ---- the cover

through_none : (k : ℕ) (w : Way) → w.2 ≡ 0 → taken_at k w ≡ 0
through_none k w e = by_test (nat_eq w.0 k || nat_eq w.1 k) (λ f. rw f e) (λ f. rw f refl)

pub ordered_covers : (p : Problem) (hubs : List ℕ) (c : ℕ × ℕ) (turns scale : ℕ) (ways : List Way) → IsProblem p
    → IsCover p hubs (record { turns = turns; scale = scale; ways = ways })
    → IsCover p hubs (record { turns = turns; scale = scale; ways = ordered_ways p.candidates ways })
    × (ways_cost p c (ordered_ways p.candidates ways) ≡ ways_cost p c ways)
ordered_covers p hubs c turns scale ways ok cover =
    let first = All-weaker (λ (w : Way). Contains p.candidates w.0 × Contains p.candidates w.1) (λ w. Contains p.candidates w.0) (λ w h. h.0) ways cover.by_candidates in
    let all = ordered_sum (λ w. w.2) p.candidates ways ok.candidates_ascend first (λ w e. e) in
    let at = λ (k : ℕ). ordered_sum (taken_at k) p.candidates ways ok.candidates_ascend first (through_none k) in (
      record {
        some_scale = cover.some_scale;
        by_candidates = ordered_all (λ (w : Way). Contains p.candidates w.0 × Contains p.candidates w.1) p.candidates ways cover.by_candidates;
        enough = omega (arith, cover.enough, all);
        at_hubs = All-weaker (λ k. taken_through ways k ≤ scale * (1 + 2 * turns)) (λ k. taken_through (ordered_ways p.candidates ways) k ≤ scale * (1 + 2 * turns))
            (λ k h. omega (arith, h, at k)) hubs cover.at_hubs;
        elsewhere = All-weaker (λ k. (Contains hubs k → ⊥) → taken_through ways k ≤ scale)
            (λ k. (Contains hubs k → ⊥) → taken_through (ordered_ways p.candidates ways) k ≤ scale)
            (λ k h none. omega (arith, h none, at k)) p.candidates cover.elsewhere;
      },
      ordered_sum (λ w. w.2 * pair_cost p c w.0 w.1) p.candidates ways ok.candidates_ascend first
          (λ w e. ap (λ n. n * pair_cost p c w.0 w.1) e ∙ omega arith),
    )
