-- Pareto-optimal cuts. A proof for each commodity shows that no cut which is tight at the same hubs dominates them.
-- The proof of a commodity is a combination of ways. No dual that is tight at the hubs can beat it.
use Rattle.std.specs.Prelude.{◌≡◌, ℕ, ◌+◌, ◌*◌, ◌^◌, ◌≤◌, List, length, sum_by, zip, All, Contains, None, nat_eq, ◌||◌, if◌then◌else◌}
use Rattle.std.specs.List.{AllZip}
use Rattle.std.specs.Int.{◌∣◌}
use Rattle.hub_spec.specs.Problem.{Problem, flow, commodities}
use Rattle.hub_spec.specs.Edges.{edge_cost, cost_or_none, least_cost}
use Rattle.hub_spec.specs.Plans.{IsHubSet}
use Rattle.hub_spec.specs.Cuts.{Prices, value_at, Cut, IsCut}

-- a way: the single hub k where both nodes are k, else the hub edge of both; and how often it is taken
abbrev pub Way : Type 0
Way = ℕ × ℕ × ℕ

-- the proof of a commodity: how many times over the hubs count, the scale, and the ways
pub record CoreProof : Type 0 where
  pub turns : ℕ
  pub scale : ℕ
  pub ways : List Way

-- how often the way is taken through the node; once where its nodes are one
abbrev pub taken_at : ℕ → Way → ℕ
taken_at k way = if nat_eq way.0 k || nat_eq way.1 k then way.2 else 0

-- how often the ways are taken: in all, and through the node
abbrev pub taken : List Way → ℕ
taken ways = sum_by (λ way. way.2) ways

abbrev pub taken_through : List Way → ℕ → ℕ
taken_through ways k = sum_by (taken_at k) ways

-- what the hub edge of both nodes costs the commodity, in its cheaper direction; where they are one, the single hub
abbrev pub pair_cost : Problem → ℕ × ℕ → ℕ → ℕ → ℕ
pair_cost p c k m = cost_or_none (edge_cost p c k m)

-- what the ways cost the commodity, each as often as it is taken
abbrev pub ways_cost : Problem → ℕ × ℕ → List Way → ℕ
ways_cost p c ways = sum_by (λ way. way.2 * pair_cost p c way.0 way.1) ways

-- the sum of the dual's values of these nodes
abbrev pub values_on : Prices → List ℕ → ℕ
values_on dual nodes = sum_by (value_at dual.u) nodes

-- the number is so many times what is carried, at most 10^20 times; so it is 0 where nothing is
pub record IsByFlow (carried x : ℕ) : Type 0 where
  pub divides : carried ∣ x
  pub limit : x ≤ 10 ^ 20 * carried

-- the ways are taken in all as often as the price counts, and through each node at most as often as the node counts:
-- once, and a hub so many turns, twice each, more
pub record IsCover (p : Problem) (hubs : List ℕ) (proof : CoreProof) : Type 0 where
  pub some_scale : 1 ≤ proof.scale
  pub by_candidates : All (λ way. Contains p.candidates way.0 × Contains p.candidates way.1) proof.ways
  pub enough : proof.scale * (2 + 2 * proof.turns) ≤ taken proof.ways
  pub at_hubs : All (λ k. taken_through proof.ways k ≤ proof.scale * (1 + 2 * proof.turns)) hubs
  pub elsewhere : All (λ k. (Contains hubs k → ⊥) → taken_through proof.ways k ≤ proof.scale) p.candidates

-- the dual is tight at the hubs, and the cover proves it Pareto-optimal. The measure is twice the price less all
-- values, over the part. No dual that is tight at the hubs has a greater one, whatever its part.
pub record IsCoreDual (p : Problem) (hubs : List ℕ) (part : ℕ) (c : ℕ × ℕ) (dual : Prices) (proof : CoreProof) : Type 0 where
  pub price_by_flow : IsByFlow (flow p c.0 c.1) dual.a
  pub values_by_flow : All (λ k. IsByFlow (flow p c.0 c.1) (value_at dual.u k)) p.candidates
  pub tight : dual.a ≡ part * least_cost p hubs c + values_on dual hubs
  pub cover : IsCover p hubs proof
  pub equal : proof.scale * (2 * dual.a + 2 * proof.turns * (part * least_cost p hubs c))
      ≡ part * ways_cost p c proof.ways + proof.scale * values_on dual p.candidates

-- the mark of a cut: its hubs, and a proof for each commodity
pub record Mark : Type 0 where
  pub hubs : List ℕ
  pub proofs : List CoreProof

-- where cuts may be marked: the length of routes is not limited, any number of hubs will do, and there are 3 to 20
-- candidates
pub record MayBeMarked (p : Problem) : Type 0 where
  pub any_length : p.longest ≡ None
  pub any_number : p.wanted ≡ None
  pub some_candidates : 3 ≤ length p.candidates
  pub few_candidates : length p.candidates ≤ 20

-- a Pareto-optimal cut of the problem, by its mark
pub record IsCoreCut (p : Problem) (x : Cut) (mark : Mark) : Type 0 where
  pub may : MayBeMarked p
  pub is_cut : IsCut p x
  pub hubs : IsHubSet p mark.hubs
  pub one_proof_each : length mark.proofs ≡ length x.duals
  pub proofs : AllZip (λ c t. IsCoreDual p mark.hubs x.part c t.0 t.1) (commodities p.size) (zip x.duals mark.proofs)
