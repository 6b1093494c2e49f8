use Rattle.std.proofs.Common.{◌+◌, ◌≤◌, slice_index, All}
use Rattle.leg_duals.specs.Ways.{no_way}
use Rattle.leg_duals.proofs.LoweredRows.{IsLoweredUpTo, NearLengths}
use Rattle.leg_duals.proofs.lowering.lower_beside.Given as goal

abbrev pub invariant-loop-j : goal.invariant-loop-j
invariant-loop-j l = record {
  lowered : IsLoweredUpTo l.j (NearLengths l.rests l.left (λ j. l.base + slice_index l.legs j + slice_index l.beside j)) l.fn.items l.items;
  limit : All (λ d. d ≤ no_way) l.items;
}
