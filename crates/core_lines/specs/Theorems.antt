-- What is proved of tallies; each statement is the contract of the public function of its name.
use Rattle.std.specs.Prelude.{◌≡◌, ◌↔◌, ℕ, ◌≤◌, None, List, [], ◌∷◌, ◌++◌}
use Rattle.hub_spec.specs.Problem.{Problem}
use Rattle.hub_spec.specs.Plans.{IsCandidateSet}
use Rattle.hub_spec.specs.Cuts.{Prices}
use Rattle.core_spec.specs.CoreCuts.{Way, CoreProof, IsCoreDual}
use Rattle.core_lines.specs.Tallies.{ProofTally, IsNoWay, IsWayAdded, IsTallyOf}
use Rattle.core_lines.specs.Tests.{IsListed, Proves}

-- a tally that is begun is that of no way
abbrev pub ProofBegins : Type 0
ProofBegins = (p : Problem) (c : ℕ × ℕ) (turns scale : ℕ) (t : ProofTally) → IsNoWay p c turns scale t
    → IsTallyOf (record { turns = turns; scale = scale; ways = [] }) t

-- with a way added it is that of the ways with this one behind
abbrev pub ProofHasWay : Type 0
ProofHasWay = (proof : CoreProof) (t later : ProofTally) (way : Way) → IsTallyOf proof t → IsWayAdded t way later
    → IsTallyOf (record { turns = proof.turns; scale = proof.scale; ways = proof.ways ++ way ∷ [] }) later

-- the tests of a proof's tally and a listed dual say whether the dual is Pareto-optimal by the proof
abbrev pub ProofDecides : Type 0
ProofDecides = (hubs : List ℕ) (part price : ℕ) (values : List ℕ) (dual : Prices) (proof : CoreProof) (t : ProofTally)
    → t.problem.longest ≡ None → IsCandidateSet t.problem hubs → 1 ≤ proof.scale → IsTallyOf proof t → IsListed dual price values
    → Proves hubs part price values t ↔ IsCoreDual t.problem hubs part t.commodity dual proof
