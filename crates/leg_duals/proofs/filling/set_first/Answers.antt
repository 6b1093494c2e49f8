use Rattle.std.proofs.Common.{arith}
use Rattle.leg_duals.proofs.FilledLegs.{first_legs_of_row}
use Rattle.leg_duals.proofs.filling.set_first.Goals as goal

pub returns : goal.returns
returns c =
    first_legs_of_row c.args.instance.now c.args.hubs.now c.args.order.now c.args.i c.collect.result c.args.first.now c.set_row.new.table
    c.collect.ensures.value (omega (arith, c.requires.long, c.set_row.auto.table)) c.set_row.ensures.row c.set_row.ensures.limit
