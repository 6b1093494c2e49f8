-- Ways with a row of values beside them.
use Rattle.std.proofs.Common.{◌≡◌, ℕ, ◌+◌, ◌<◌, List, slice_index, sym, ap, ◌∙◌}
use Rattle.unit_duals.specs.Cells.{cell}
use Rattle.leg_duals.specs.Ways.{WaysFrom, IsWayBeside, way}
use Rattle.leg_duals.specs.Lowered.{IsLoweredOrSpared}
use Rattle.leg_duals.proofs.LoweredSets.{or_spared_as}

beside_same : (w : WaysFrom) (some other : ℕ → ℕ) (k m j v : ℕ) → some j ≡ other j → IsWayBeside w some k m j v → IsWayBeside w other k m j v
beside_same w some other k m j v same is = (is.0, is.1 ∙ ap (λ (x : ℕ). way w k m j + x) same)

-- the row by its cells
pub beside_row : (w : WaysFrom) (spared : Type 0) (values row : List ℕ) (e k m n : ℕ) (old new : List ℕ) → n ≡ w.size
    → ((j : ℕ) → j < n → slice_index row j ≡ cell n values e j)
    → IsLoweredOrSpared w.size spared (IsWayBeside w (slice_index row) k m) old new
    → IsLoweredOrSpared w.size spared (IsWayBeside w (cell w.size values e) k m) old new
beside_row w spared values row e k m n old new many each =
    let same = rw many at each in
    or_spared_as w.size spared (IsWayBeside w (slice_index row) k m) (IsWayBeside w (cell w.size values e) k m) old new
    (λ j v low. beside_same w (slice_index row) (cell w.size values e) k m j v (same j low))
    (λ j v low. beside_same w (cell w.size values e) (slice_index row) k m j v (sym (same j low)))
