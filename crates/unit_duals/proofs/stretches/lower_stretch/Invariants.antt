use Rattle.std.proofs.Common.{◌+◌, min, slice_index}
use Rattle.unit_duals.specs.Raised.{IsStretchSet}
use Rattle.unit_duals.proofs.stretches.lower_stretch.Given as goal

abbrev pub invariant-loop-j : goal.invariant-loop-j
invariant-loop-j l =
    IsStretchSet l.at l.j (λ j. min (slice_index l.fn.items (l.at + j)) (l.base + slice_index l.legs j)) l.fn.items l.items
