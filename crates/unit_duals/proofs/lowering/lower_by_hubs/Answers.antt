use Rattle.std.proofs.Common.{length, arith}
use Rattle.unit_duals.proofs.LoweredRows.{lowered_none, lowered_more, lowered_all}
use Rattle.unit_duals.proofs.lowering.lower_by_hubs.Goals as goal

pub loop-x-init : goal.loop-x-init
loop-x-init c = record {
  lowered = lowered_none (length c.args.items.now) c.args.bases.now c.args.table.now c.args.start c.lower_by_nearest.new.items;
  most = c.greatest-most.ensures;
  limit = c.lower_by_nearest.ensures.limit;
}

pub loop-x-preserved : goal.loop-x-preserved
loop-x-preserved c = record {
  lowered = lowered_more (length c.args.items.now) c.args.bases.now c.args.table.now c.args.start c.loop-x.x c.lower_by_nearest.new.items
      c.loop-x.items c.lower_from.new.items c.loop-x.invariant.lowered
      (rw (c.loop-x.auto.items, c.lower_by_nearest.auto.items) at c.lower_from.ensures.lowered);
  most = c.lower_from.ensures.most;
  limit = c.lower_from.ensures.limit;
}

pub returns : goal.returns
returns c = lowered_all (length c.args.items.now) c.args.bases.now c.args.table.now c.args.start c.loop-x.x c.args.hubs
    c.args.items.now c.lower_by_nearest.new.items c.loop-x.items c.lower_by_nearest.ensures.alike c.loop-x.invariant.lowered (omega arith)
