use Rattle.std.proofs.Common.{◌-◌, slice_index}
use Rattle.unit_duals.specs.Cells.{cell}
use Rattle.unit_duals.specs.Lengths.{last_leg}
use Rattle.unit_duals.specs.Raised.{IsRowSet}
use Rattle.unit_duals.proofs.turns.set_slack_row.Given as goal

abbrev pub invariant-loop-j : goal.invariant-loop-j
invariant-loop-j l =
    let legs = l.lengths.tables.now.legs in
    record {
      slack : IsRowSet legs.size l.t l.j (λ j. slice_index l.lengths.prices.now j - cell legs.size l.values l.t j - last_leg legs l.t j) l.fn.slack l.slack;
      rest : IsRowSet legs.size l.t l.j (λ j. slice_index l.lengths.prices.now j - cell legs.size l.values l.t j) l.fn.rest l.rest;
    }
