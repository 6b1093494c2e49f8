use Rattle.std.proofs.Common.{ℕ, ◌<◌, ◌≤◌, All}
use Rattle.unit_duals.specs.Cells.{cell}
use Rattle.leg_duals.specs.Ways.{no_way}
use Rattle.leg_duals.specs.Duals.{AreValues}
use Rattle.leg_duals.proofs.turns.set_values.Given as goal

abbrev pub invariant-loop-t : goal.invariant-loop-t
invariant-loop-t l = record {
  before : (e : ℕ) → e < l.t → AreValues l.ways l.prices (cell l.ways.size l.values) e;
  limit : All (λ d. d ≤ no_way) l.values;
}
