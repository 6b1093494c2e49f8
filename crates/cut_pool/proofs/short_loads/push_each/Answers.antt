use Rattle.std.proofs.Common.{get_or, ap, arith}
use Rattle.cut_pool.proofs.ShortRows.{pushed_next}
use Rattle.cut_pool.proofs.short_loads.push_each.Goals as goal

pub loop-k-preserved : goal.loop-k-preserved
loop-k-preserved c =
    pushed_next c.args.more c.args.halvings c.loop-k.k c.args.rows.now c.loop-k.rows c.push_halved.new.row
    (get_or c.loop-k.rows c.loop-k.k c.index-rows-k.result) c.args.loads.now c.short.result (omega arith)
    (ap (get_or c.loop-k.rows c.loop-k.k) c.index-rows-k.is) c.in_ok-push_halved.ensures c.short.ensures c.loop-k.invariant
