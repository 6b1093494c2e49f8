use Rattle.std.proofs.Common.{length}
use Rattle.leg_duals.proofs.ValueRows.{values_more}
use Rattle.leg_duals.proofs.turns.set_values.Goals as goal

pub loop-t-preserved : goal.loop-t-preserved
loop-t-preserved c = record {
  before = values_more c.args.ways.now c.args.prices.now c.lower_by_place.new.least c.loop-t.values c.set_row.new.values
      (length c.args.prices.now) c.loop-t.t c.requires.prices_long c.lower_by_place.ensures.lowered c.set_row.ensures.row c.loop-t.invariant.before;
  limit = c.set_row.ensures.limit;
}
