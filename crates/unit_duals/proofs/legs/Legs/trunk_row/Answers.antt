use Rattle.std.proofs.Common.{◌+◌, arith}
use Rattle.unit_duals.proofs.TableCells.{row_within}
use Rattle.unit_duals.proofs.legs.Legs.trunk_row.Goals as goal

pub row-requires : goal.row-requires
row-requires c =
    let stop = rw (← c.self.view_is) at c.requires in
    let n = c.self.inside.count + c.self.inside.hubs in
    omega (arith, row_within c.args.k n n stop, c.self.invariant.trunk_long)
