-- The ranges of the numbers in a mark, within which the lines of a certificate can say it.
use Rattle.std.specs.Prelude.{◌≡◌, ℕ, ◌*◌, ◌^◌, ◌<◌, ◌≤◌, List, length, All, ◌⊎◌}
use Rattle.std.specs.List.{AllPairs}
use Rattle.std.specs.List.Sorted.{IsStrictlyIncreasing}
use Rattle.core_spec.specs.CoreCuts.{Way, CoreProof, Mark}

-- what a proof says of turns, scale and one way
abbrev pub most_turns : ℕ
most_turns = 1000

abbrev pub most_scale : ℕ
most_scale = 10 ^ 9

abbrev pub most_taken : ℕ
most_taken = 10 ^ 12

-- the first way's pair of nodes comes before the second's: its first node is less, or the same and its last node is less
abbrev pub IsWayBefore : Way → Way → Type 0
IsWayBefore v w = (v.0 < w.0) ⊎ ((v.0 ≡ w.0) × (v.1 < w.1))

-- a way in range, between n nodes: the lesser node first, and taken at least once
pub record IsWayInRange (n : ℕ) (w : Way) : Type 0 where
  pub nodes : w.0 ≤ w.1
  pub last : w.1 < n
  pub some : 1 ≤ w.2
  pub most : w.2 ≤ most_taken

-- a proof in range: no pair of nodes twice, in order
pub record IsProofInRange (n : ℕ) (proof : CoreProof) : Type 0 where
  pub turns : proof.turns ≤ most_turns
  pub some_scale : 1 ≤ proof.scale
  pub scale : proof.scale ≤ most_scale
  pub ascend : AllPairs IsWayBefore proof.ways
  pub each : All (IsWayInRange n) proof.ways

-- the hubs of a mark in range
pub record AreMarkHubs (n : ℕ) (hubs : List ℕ) : Type 0 where
  pub some : 1 ≤ length hubs
  pub ascend : IsStrictlyIncreasing hubs
  pub nodes : All (λ k. k < n) hubs

-- a mark in range: hubs, and one proof for each commodity
pub record IsMarkInRange (n : ℕ) (mark : Mark) : Type 0 where
  pub hubs : AreMarkHubs n mark.hubs
  pub one_for_each : length mark.proofs ≡ n * n
  pub each : All (IsProofInRange n) mark.proofs
