-- The mark of a cut while its hubs come, and then the proofs of the cut's duals.
use Rattle.std.specs.Prelude.{◌≡◌, ℕ, ◌<◌, ◌≤◌, List, length, All}
use Rattle.std.specs.List.Sorted.{IsStrictlyIncreasing}
use Rattle.hub_spec.specs.Limits.{most_part}
use Rattle.core_lines.specs.Tallies.{ProofTally}

-- the part of the cut and the hubs of its mark so far, and the proof that stands
pub record MarkTally : Type 0 where
  pub part : ℕ
  pub hubs : List ℕ
  pub proof : ProofTally

-- the part is one, the hubs are nodes and ascend, there is room for as many as there are nodes, and a place for a value
-- of each
pub record IsHeld (room : ℕ) (row : List ℕ) (mark : MarkTally) : Type 0 where
  pub part_least : 1 ≤ mark.part
  pub part_most : mark.part ≤ most_part
  pub ascend : IsStrictlyIncreasing mark.hubs
  pub nodes : All (λ k. k < mark.proof.problem.size) mark.hubs
  pub enough : mark.proof.problem.size ≤ room
  pub long : length row ≡ mark.proof.problem.size
