use Rattle.std.proofs.Common.{◌+◌, length, ap, subst, arith}
use Rattle.unit_duals.specs.Lengths.{RoomedLegs, IsLegRow}
use Rattle.unit_duals.specs.Values.{back_leg}
use Rattle.unit_duals.specs.TableParts.{table_legs}
use Rattle.unit_duals.proofs.TableCells.{row_within, cell_within}
use Rattle.unit_duals.proofs.LegRows.{leg_row, back_leg_limit}
use Rattle.unit_duals.proofs.tables.Tables.back_row.Goals as goal

pub row-requires : goal.row-requires
row-requires c =
    let stop = rw (← c.self.view_is) at c.requires in
    let n = c.self.inside.size in
    let long = ap length c.deref.ensures.value in
    omega (arith, row_within c.args.k n (c.self.inside.count + c.self.inside.hubs) stop, c.self.invariant.made.back_long, long)

pub returns : goal.returns
returns c =
    let stop = rw (← c.self.view_is) at c.requires in
    let n = c.self.inside.size in
    let l = table_legs c.self.inside in
    subst (λ (v : RoomedLegs). IsLegRow (v.legs.size) (back_leg v.legs c.args.k) c.row.result.now) c.self.view_is
    (leg_row n c.args.k (back_leg l c.args.k) c.deref.result.now c.self.inside.back.items c.row.result.now c.deref.ensures.value c.row.ensures.long
    c.row.ensures.each (λ j below. c.self.invariant.made.back.each c.args.k j below (omega (arith, cell_within c.args.k j n (c.self.inside.count + c.self.inside.hubs) stop below, c.self.invariant.made.back_long)))
    (λ j below. back_leg_limit l c.args.k j c.self.invariant.made.legs stop below))
