use Rattle.std.proofs.Common.{◌+◌, arith}
use Rattle.unit_duals.proofs.TableCells.{row_within}
use Rattle.unit_duals.proofs.legs.Legs.last_row.Goals as goal

pub row-requires : goal.row-requires
row-requires c =
    let stop = rw (← c.self.view_is) at c.requires in
    omega (arith, row_within c.args.k c.self.inside.size (c.self.inside.count + c.self.inside.hubs) stop, c.self.invariant.last_long)
