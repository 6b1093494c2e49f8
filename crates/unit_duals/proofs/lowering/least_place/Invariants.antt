use Rattle.std.proofs.Common.{◌<◌, length}
use Rattle.unit_duals.proofs.lowering.least_place.Given as goal

abbrev pub invariant-loop-at : goal.invariant-loop-at
invariant-loop-at l = l.least < length l.items
