use Rattle.std.proofs.Common.{◌≡◌, ℕ, ◌<◌, slice_index}
use Rattle.unit_duals.specs.Lengths.{last_leg}
use Rattle.unit_duals.proofs.filling.set_straight.Given as goal

abbrev pub invariant-loop-k : goal.invariant-loop-k
invariant-loop-k l = (k : ℕ) → k < l.k → slice_index l.straight k ≡ last_leg l.legs k l.j
