-- The core problem is within the limits of its rows.
use Rattle.std.proofs.Common.{◌≡◌, ℕ, ◌*◌, ◌/◌, ◌<◌, ◌≤◌, None, Bool, List, [], ◌∷◌, length, map, filter, get_or, All, Contains, pos, unsigned_abs, arith}
use Rattle.std.proofs.Math.Nat.{mul-le-mul}
use Rattle.std.proofs.lemmas.Int.{ints}
use Rattle.std.proofs.lemmas.List.{length-append, length-map}
use Rattle.std.proofs.lemmas.List.Elements.{All-weaker, All-contains, All-map, All-get_or}
use Rattle.hub_spec.specs.Problem.{Problem, IsProblem, flow}
use Rattle.core_spec.specs.CoreCuts.{pair_cost}
use Rattle.hub_spec.proofs.SumLemmas.{by_test}
use Rattle.core_cuts.specs.CoreTables.{is_needed, pairs_of, core_edges, core_rights, edge_right}
use Rattle.core_cuts.proofs.BestCovers.{edges_by}
use Rattle.core_cuts.proofs.Found.{right_limit}
use Rattle.core_cuts.specs.Bodies.{most_unit}

pairs_few : (ks : List ℕ) → length (pairs_of ks) ≤ length ks * length ks
pairs_few [] = omega arith
pairs_few (k ∷ ks) =
    omega (
      arith,
      length-append {A = ℕ × ℕ} (map (λ m. (k, m)) ks) (pairs_of ks),
      length-map {B = ℕ × ℕ} ks (λ m. (k, m)),
      pairs_few ks,
    )

kept_few : (test : ℕ × ℕ → Bool) (es : List (ℕ × ℕ)) → length (filter test es) ≤ length es
kept_few test [] = omega arith
kept_few test (e ∷ es) = by_test (test e) (λ yes_is. rw yes_is (omega (arith, kept_few test es))) (λ no_is. rw no_is (omega (arith, kept_few test es)))

pub edges_few : (p : Problem) (c : ℕ × ℕ) → length p.candidates ≤ 200 → length (core_edges p c) ≤ 40200
unfolding core_edges
edges_few p c few =
    omega (
      arith,
      length-append {A = ℕ × ℕ} (map (λ k. (k, k)) p.candidates) (filter (is_needed p c) (pairs_of p.candidates)),
      length-map {B = ℕ × ℕ} p.candidates (λ k. (k, k)),
      kept_few (is_needed p c) (pairs_of p.candidates),
      pairs_few p.candidates,
      mul-le-mul few few,
    )

-- both nodes of each way are nodes
pub edges_are_nodes : (p : Problem) (c : ℕ × ℕ) → IsProblem p → All (λ (e : ℕ × ℕ). (e.0 < p.size) × (e.1 < p.size)) (core_edges p c)
edges_are_nodes p c ok =
    All-weaker (λ (e : ℕ × ℕ). Contains p.candidates e.0 × Contains p.candidates e.1) (λ e. (e.0 < p.size) × (e.1 < p.size))
    (λ e both. (
      All-contains (λ m. m < p.size) p.candidates e.0 ok.candidates_are_nodes both.0,
      All-contains (λ m. m < p.size) p.candidates e.1 ok.candidates_are_nodes both.1,
    )) (core_edges p c) (edges_by p c)

-- each has its right side
pub rights_few : (p : Problem) (c : ℕ × ℕ) → length (core_rights p c) ≡ length (core_edges p c)
rights_few p c = length-map (core_edges p c) (λ (e : ℕ × ℕ). pos (edge_right p c e))

-- no right side is too great
pub rights_limit : (p : Problem) (c : ℕ × ℕ) → IsProblem p → p.longest ≡ None → c.0 < p.size → c.1 < p.size
    → All (λ x. unsigned_abs x ≤ most_unit) (map (λ e. pos (edge_right p c e)) (core_edges p c))
rights_limit p c ok any from to =
    All-map (λ x. unsigned_abs x ≤ most_unit) (λ e. pos (edge_right p c e)) (core_edges p c) (λ x d l.
    (let both = All-get_or (λ (e : ℕ × ℕ). (e.0 < p.size) × (e.1 < p.size)) (core_edges p c) x d l (edges_are_nodes p c ok) in
    omega (arith, ints, right_limit p c (get_or (core_edges p c) x d) ok any from to both.0 both.1)))

pub singles_limit : (p : Problem) (c : ℕ × ℕ) → IsProblem p → p.longest ≡ None → c.0 < p.size → c.1 < p.size
    → All (λ cost. cost / flow p c.0 c.1 ≤ most_unit) (map (λ k. pair_cost p c k k) p.candidates)
singles_limit p c ok any from to =
    All-map (λ cost. cost / flow p c.0 c.1 ≤ most_unit) (λ k. pair_cost p c k k) p.candidates (λ x d l.
    (let node = All-get_or (λ (k : ℕ). k < p.size) p.candidates x d l ok.candidates_are_nodes in
    let k = get_or p.candidates x d in right_limit p c (k, k) ok any from to node node))
