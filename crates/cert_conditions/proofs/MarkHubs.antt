-- The hubs of a mark with one more.
use Rattle.std.proofs.Common.{ℕ, ◌<◌, List, [], ◌∷◌, ◌++◌, length, All, length-append, arith}
use Rattle.std.proofs.lemmas.List.Elements.{All-push, All-contains}
use Rattle.hub_spec.proofs.Ascending.{ascend_push}
use Rattle.hub_spec.proofs.Limits.{few_candidates}
use Rattle.cert_conditions.specs.Marks.{MarkTally, IsHeld}

pub held_more : (room k : ℕ) (row : List ℕ) (mark : MarkTally) → IsHeld room row mark → k < mark.proof.problem.size
    → All (λ (m : ℕ). m < k) mark.hubs → IsHeld room row (record mark { hubs = mark.hubs ++ k ∷ [] })
held_more room k row mark h node above = record {
  part_least = h.part_least;
  part_most = h.part_most;
  ascend = ascend_push mark.hubs k h.ascend (λ m c. All-contains (λ (m : ℕ). m < k) mark.hubs m above c);
  nodes = All-push (λ k. k < mark.proof.problem.size) mark.hubs k h.nodes node;
  enough = h.enough;
  long = h.long;
}

-- there is room for it
pub has_room : (room k : ℕ) (row : List ℕ) (mark : MarkTally) → IsHeld room row mark → k < mark.proof.problem.size
    → All (λ (m : ℕ). m < k) mark.hubs → length mark.hubs < room
has_room room k row mark h node above =
    let more = held_more room k row mark h node above in
    omega (arith, few_candidates (mark.hubs ++ k ∷ []) mark.proof.problem.size more.ascend more.nodes, length-append mark.hubs (k ∷ []), h.enough)
