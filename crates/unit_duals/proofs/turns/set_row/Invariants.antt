use Rattle.unit_duals.specs.Raised.{asked_by_hubs, IsRowSet}
use Rattle.unit_duals.proofs.turns.set_row.Given as goal

abbrev pub invariant-loop-j : goal.invariant-loop-j
invariant-loop-j l =
    let legs = l.lengths.tables.now.legs in
    IsRowSet legs.size l.t l.j (asked_by_hubs legs l.lengths.prices.now l.lengths.first.now l.lengths.reach.now l.t) l.fn.values l.values
