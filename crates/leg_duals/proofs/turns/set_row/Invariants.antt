use Rattle.std.proofs.Common.{◌-◌, ◌≤◌, length, slice_index, All}
use Rattle.unit_duals.specs.Raised.{IsRowSet}
use Rattle.leg_duals.specs.Ways.{no_way}
use Rattle.leg_duals.proofs.turns.set_row.Given as goal

abbrev pub invariant-loop-j : goal.invariant-loop-j
invariant-loop-j l = record {
  row : IsRowSet (length l.prices) l.t l.j (λ j. slice_index l.prices j - slice_index l.least j) l.fn.values l.values;
  limit : All (λ d. d ≤ no_way) l.values;
}
