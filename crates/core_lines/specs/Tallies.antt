-- The proof of a commodity's Pareto-optimal dual, tallied way by way, with no way stored.
use Rattle.std.specs.Prelude.{◌≡◌, ℕ, ◌+◌, ◌*◌, ◌^◌, ◌↔◌, Bool, true, IsTrue, None, List, slice_index, All, Contains}
use Rattle.hub_spec.specs.Limits.{most_nodes}
use Rattle.hub_spec.specs.Problem.{Problem, flow}
use Rattle.core_spec.specs.CoreCuts.{Way, CoreProof, taken_at, taken, taken_through, pair_cost, ways_cost}

-- of a proof's ways: no pair of nodes comes twice
abbrev pub most_ways : ℕ
most_ways = most_nodes * most_nodes

-- a commodity of an instance, and the turns and the scale of its proof. Of the ways so far: how many there are, how
-- often they are taken, in all and through each node, what they cost together by unit of flow, and whether candidates
-- alone are on them
pub record ProofTally : Type 0 where
  pub problem : Problem
  pub commodity : ℕ × ℕ
  pub turns : ℕ
  pub scale : ℕ
  pub count : ℕ
  pub taken : ℕ
  pub through : List ℕ
  pub lengths : ℕ
  pub by_candidates : Bool

-- the flow of the commodity
abbrev pub carried : ProofTally → ℕ
carried t = flow t.problem t.commodity.0 t.commodity.1

-- no way has come
pub record IsNoWay (p : Problem) (c : ℕ × ℕ) (turns scale : ℕ) (t : ProofTally) : Type 0 where
  pub problem_is : t.problem ≡ p
  pub commodity_is : t.commodity ≡ c
  pub turns_is : t.turns ≡ turns
  pub scale_is : t.scale ≡ scale
  pub count_is : t.count ≡ 0
  pub taken_is : t.taken ≡ 0
  pub through_are : (k : ℕ) → slice_index t.through k ≡ 0
  pub lengths_is : t.lengths ≡ 0
  pub known : t.by_candidates ≡ true

-- the later tally has this way more; its cost is known where the length of routes is not limited
pub record IsWayAdded (t : ProofTally) (way : Way) (later : ProofTally) : Type 0 where
  pub problem_is : later.problem ≡ t.problem
  pub commodity_is : later.commodity ≡ t.commodity
  pub turns_is : later.turns ≡ t.turns
  pub scale_is : later.scale ≡ t.scale
  pub count_is : later.count ≡ t.count + 1
  pub taken_is : later.taken ≡ t.taken + way.2
  pub through_are : (k : ℕ) → slice_index later.through k ≡ slice_index t.through k + taken_at k way
  pub lengths_are : t.problem.longest ≡ None
      → carried t * later.lengths ≡ carried t * t.lengths + way.2 * pair_cost t.problem t.commodity way.0 way.1
  pub known : IsTrue later.by_candidates ↔ (IsTrue t.by_candidates × Contains t.problem.candidates way.0 × Contains t.problem.candidates way.1)

-- the tally is that of this proof
pub record IsTallyOf (proof : CoreProof) (t : ProofTally) : Type 0 where
  pub turns_is : t.turns ≡ proof.turns
  pub scale_is : t.scale ≡ proof.scale
  pub taken_is : t.taken ≡ taken proof.ways
  pub through_are : (k : ℕ) → slice_index t.through k ≡ taken_through proof.ways k
  pub lengths_are : t.problem.longest ≡ None → carried t * t.lengths ≡ ways_cost t.problem t.commodity proof.ways
  pub known : IsTrue t.by_candidates
      ↔ All (λ (way : Way). Contains t.problem.candidates way.0 × Contains t.problem.candidates way.1) proof.ways
