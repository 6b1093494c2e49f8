-- What is read of a best table is a Pareto-optimal dual.
use Rattle.std.proofs.Common.{◌≡◌, ℕ, zero, suc, ◌+◌, ◌-◌, ◌*◌, ◌/◌, ◌^◌, ◌<◌, ◌≤◌, nat_eq, ◌||◌, get_or, List, [], ◌∷◌, map, length, drop, Contains, None, ℤ, pos, ◌-ℤ◌, unsigned_abs, sym, ap, ◌∙◌, arith}
use Rattle.std.proofs.Math.Nat.{mul-le-mul, mul-div_cancel_left}
use Rattle.std.proofs.lemmas.Int.{ints}
use Rattle.std.proofs.lemmas.Nat.{mul-add-lt}
use Rattle.std.proofs.lemmas.List.Elements.{All-get_or, All-cons, All-nil, All-append, All-map, All-contains}
use Rattle.hub_spec.specs.Limits.{most_distance}
use Rattle.hub_spec.specs.Problem.{Problem, IsProblem, flow, distance}
use Rattle.hub_spec.specs.Plans.{IsHubSet}
use Rattle.hub_spec.specs.Cuts.{Prices, IsDual}
use Rattle.hub_spec.proofs.Limits.{few_candidates}
use Rattle.hub_spec.proofs.Sets.{is_in, All-from_contains}
use Rattle.hub_spec.proofs.SumLemmas.{by_test}
use Rattle.core_spec.specs.CoreCuts.{pair_cost, IsCoreDual}
use Rattle.core_spec.proofs.Lengths.{unit_length, pair_length, pair_length_costs}
use Rattle.frac_rows.specs.Rows.{number, objective, AreNarrow, widest}
use Rattle.frac_rows.specs.Runs.{run}
use Rattle.frac_rows.specs.declared.ended.Ended.TheVariants.{Best}
use Rattle.core_cuts.specs.CoreTables.{core_edges, edge_right, through, counts, price_column, value_column, core_table, ways_of, ordered_ways}
use Rattle.core_cuts.specs.RunTheorems.{IsNarrowCore, IsReadOf, IsMadeOf}
use Rattle.core_cuts.proofs.BestCovers.{best_is_cover, edges_by}
use Rattle.core_cuts.proofs.UnitBalances.{best_is_balanced}
use Rattle.core_cuts.proofs.MadeDuals.{balanced_is_core}
use Rattle.core_cuts.proofs.OrderedWays.{ordered_covers}

-- ---- numbers that are not too great

abs_less : (n : ℕ) → unsigned_abs (pos 0 -ℤ pos n) ≡ n
abs_less n = omega (arith, ints)

distance_limit : (p : Problem) (i j : ℕ) → IsProblem p → i < p.size → j < p.size → distance p i j ≤ most_distance
unfolding distance
distance_limit p i j ok row column =
    All-get_or (λ d. d ≤ most_distance) p.distances (i * p.size + j) 0
    (omega (arith, ok.distance_for_each_pair, mul-add-lt i p.size j p.size row column)) ok.distance_limit

pub length_limit : (p : Problem) (i j k m : ℕ) → IsProblem p → i < p.size → j < p.size → k < p.size → m < p.size
    → unit_length p i j k m ≤ 3 * 10 ^ 16
unfolding unit_length
length_limit p i j k m ok from to first last =
    omega (
      arith,
      mul-le-mul ok.collect_limit (distance_limit p i k ok from first),
      mul-le-mul ok.trunk_limit (distance_limit p k m ok first last),
      mul-le-mul ok.deliver_limit (distance_limit p m j ok last to),
    )

-- what is so many times the flow, over it
pub quotient_limit : (w long cost : ℕ) → w * long ≡ cost → long ≤ 3 * 10 ^ 16 → cost / w ≤ 3 * 10 ^ 16
quotient_limit zero long cost is few = (let none : cost ≡ 0 = omega (arith, is) in rw none (omega arith))
quotient_limit (suc w) long cost is few =
    let quotient : cost / suc w ≡ long = ap (λ n. n / suc w) (sym is) ∙ mul-div_cancel_left long (omega arith) in
    omega (arith, quotient, few)

pub right_limit : (p : Problem) (c e : ℕ × ℕ) → IsProblem p → p.longest ≡ None → c.0 < p.size → c.1 < p.size → e.0 < p.size → e.1 < p.size
    → edge_right p c e ≤ 3 * 10 ^ 16
right_limit p c e ok any from to first last =
    quotient_limit (flow p c.0 c.1) (pair_length p c e.0 e.1) (pair_cost p c e.0 e.1) (pair_length_costs p c e.0 e.1 any)
    (omega (arith, length_limit p c.0 c.1 e.0 e.1 ok from to first last))

pub core_is_narrow : (p : Problem) (hubs : List ℕ) (c : ℕ × ℕ) → IsProblem p → p.longest ≡ None → c.0 < p.size → c.1 < p.size → IsNarrowCore p hubs c
core_is_narrow p hubs c ok any from to =
    let edges = core_edges p c in
    let turns = length p.candidates in
    let few : turns ≤ 200 = omega (arith, few_candidates p.candidates p.size ok.candidates_ascend ok.candidates_are_nodes, ok.size_limit) in
    let N = λ (x : ℤ). unsigned_abs x ≤ widest in
    let price : AreNarrow (price_column edges turns) =
    All-append N (map (λ e. pos 1) edges) ((pos 0 -ℤ pos (2 + 2 * turns)) ∷ [])
    (All-map N (λ e. pos 1) edges (λ k d l. omega arith))
    (All-cons N (pos 0 -ℤ pos (2 + 2 * turns)) [] (omega (arith, abs_less (2 + 2 * turns), few)) (All-nil N)) in
    let node = λ (k : ℕ) (here : Contains p.candidates k). All-contains (λ m. m < p.size) p.candidates k ok.candidates_are_nodes here in
    record {
      columns = All-cons AreNarrow (price_column edges turns) (map (value_column edges hubs turns) p.candidates) price
          (All-map AreNarrow (value_column edges hubs turns) p.candidates (All-from_contains (λ k. AreNarrow (value_column edges hubs turns k)) p.candidates
          (λ k here. value_narrow edges turns k few)));
      rights = All-map N (λ e. pos (edge_right p c e)) edges (λ x d l.
          (let by = edges_nodes x d l in
          omega (arith, right_limit p c (get_or edges x d) ok any from to by.0 by.1)));
    }
  where
    value_narrow : (edges : List (ℕ × ℕ)) (turns k : ℕ) → turns ≤ 200 → AreNarrow (value_column edges hubs turns k)
    value_narrow edges turns k few =
        All-append (λ x. unsigned_abs x ≤ widest) (map (λ e. pos 0 -ℤ pos (through e k)) edges) (pos (counts hubs turns k) ∷ [])
        (All-map (λ x. unsigned_abs x ≤ widest) (λ e. pos 0 -ℤ pos (through e k)) edges (λ x d l. through_narrow (get_or edges x d)))
        (All-cons (λ x. unsigned_abs x ≤ widest) (pos (counts hubs turns k)) []
        (by_test (is_in hubs k) (λ e. rw e (omega (arith, few))) (λ e. rw e (omega arith))) (All-nil (λ x. unsigned_abs x ≤ widest)))
      where
        through_narrow : (e : ℕ × ℕ) → unsigned_abs (pos 0 -ℤ pos (through e k)) ≤ widest
        through_narrow e = by_test (nat_eq e.0 k || nat_eq e.1 k) (λ f. rw f (omega arith)) (λ f. rw f (omega arith))

    edges_nodes : (x : ℕ) (d : ℕ × ℕ) → x < length (core_edges p c) → ((get_or (core_edges p c) x d).0 < p.size) × ((get_or (core_edges p c) x d).1 < p.size)
    edges_nodes x d l =
        let both = All-get_or (λ (e : ℕ × ℕ). Contains p.candidates e.0 × Contains p.candidates e.1) (core_edges p c) x d l (edges_by p c) in (
          All-contains (λ m. m < p.size) p.candidates (get_or (core_edges p c) x d).0 ok.candidates_are_nodes both.0,
          All-contains (λ m. m < p.size) p.candidates (get_or (core_edges p c) x d).1 ok.candidates_are_nodes both.1,
        )

-- ---- all together

pub found_is_core : (p : Problem) (hubs : List ℕ) (c : ℕ × ℕ) (part price v : ℕ) (value : ℕ → ℕ) (dual : Prices) → IsProblem p → p.longest ≡ None → IsHubSet p hubs
    → c.0 < p.size → c.1 < p.size → (run (core_table p hubs c)).ended ≡ Best
    → IsReadOf p (run (core_table p hubs c)).table part price value → IsMadeOf p hubs c part price v value dual
    → (scale : ℕ) × (number (objective (run (core_table p hubs c)).table) (length (objective (run (core_table p hubs c)).table) - 2) ≡ pos scale)
    × IsDual p part c dual × IsCoreDual p hubs part c dual (record {
      turns = length p.candidates;
      scale = scale;
      ways = ordered_ways p.candidates
          (ways_of (core_edges p c) (drop (length p.candidates + 1) (objective (run (core_table p hubs c)).table)));
    })
found_is_core p hubs c part price v value dual ok any set from to best read made =
    let row = objective (run (core_table p hubs c)).table in
    let narrow = core_is_narrow p hubs c ok any from to in
    let cover = best_is_cover p hubs c set narrow best in
    let balanced = best_is_balanced p hubs c part price cover.0 value set narrow best read cover.1 in
    let core = balanced_is_core p hubs c part price v value dual row cover.0 ok any set cover.1 balanced made in
    let ordered = ordered_covers p hubs c (length p.candidates) cover.0 (ways_of (core_edges p c) (drop (length p.candidates + 1) row)) ok core.1.cover in (
      cover.0,
      cover.1.scale_is,
      core.0,
      record {
        price_by_flow = core.1.price_by_flow;
        values_by_flow = core.1.values_by_flow;
        tight = core.1.tight;
        cover = ordered.0;
        equal = rw ordered.1 core.1.equal;
      },
    )
