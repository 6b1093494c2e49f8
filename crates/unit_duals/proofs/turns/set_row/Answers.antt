use Rattle.std.proofs.Common.{ℕ, ◌+◌, ◌*◌, ◌<◌, set, sym, subst, arith}
use Rattle.unit_duals.specs.Raised.{asked_by_hubs, IsRowSet}
use Rattle.unit_duals.proofs.SetRows.{row_set_more}
use Rattle.unit_duals.proofs.TableCells.{cell_within}
use Rattle.unit_duals.proofs.turns.set_row.Goals as goal

pub loop-j-preserved : goal.loop-j-preserved
loop-j-preserved c =
    let l = c.args.lengths.now.tables.now.legs in
    let t = c.args.t in
    let j = c.loop-j.j in
    let column : j < l.size = omega arith in
    let value = asked_by_hubs l c.args.lengths.now.prices.now c.args.lengths.now.first.now c.args.lengths.now.reach.now t in
    let back = c.back_row-back.ensures.each j column in
    let last = c.last_row-last.ensures.each j column in
    subst (λ (n : ℕ). IsRowSet l.size t (j + 1) value c.args.values.now (set c.loop-j.values (t * n + j) c.excess.result)) (sym c.size-size.ensures.value)
    (row_set_more l.size t j c.excess.result value c.args.values.now c.loop-j.values column
    (omega (arith, cell_within t j l.size l.count c.requires.place column, c.requires.values))
    (omega (arith, c.excess.ensures, c.lesser-least.ensures, back, last)) c.loop-j.invariant)
