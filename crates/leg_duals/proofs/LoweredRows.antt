-- A row lowered to one way, number by number.
use Rattle.std.proofs.Common.{◌≡◌, ℕ, ◌+◌, ◌<◌, ◌≤◌, ◌⊎◌, List, slice_index, ⊎_elim, ◌∙◌}
use Rattle.leg_duals.specs.Lowered.{IsLowered}

-- the numbers before `upto` are lowered, and the others are as they were
pub record IsLoweredUpTo (upto : ℕ) (lengths : ℕ → ℕ → Type 0) (old new : List ℕ) : Type 0 where
  pub here : IsLowered upto lengths (slice_index old) (slice_index new)
  pub later : (x : ℕ) → upto ≤ x → slice_index new x ≡ slice_index old x

-- the lengths of one way: of each destination whose rest is no more than what is left
abbrev pub NearLengths : List ℕ → ℕ → (ℕ → ℕ) → ℕ → ℕ → Type 0
NearLengths rests left long j v = (slice_index rests j ≤ left) × (v ≡ long j)
