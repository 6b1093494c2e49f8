use Rattle.std.proofs.Common.{slice_index, length, refl, sym, arith}
use Rattle.unit_duals.proofs.LeastNumbers.{least_of-none, least_step, least_all}
use Rattle.value_cuts.proofs.pricing.least_end.Goals as goal

pub loop-x-init : goal.loop-x-init
loop-x-init c = sym (least_of-none c.args.most (slice_index c.args.ends.now))

pub loop-x-preserved : goal.loop-x-preserved
loop-x-preserved c =
    least_step c.args.most (slice_index c.args.ends.now) c.loop-x.x c.loop-x.least (slice_index c.args.ends.now c.loop-x.x)
    c.min-least.result c.loop-x.invariant refl c.min-least.ensures

pub returns : goal.returns
returns c =
    least_all c.args.most (slice_index c.args.ends.now) c.loop-x.x (length c.args.ends.now) c.loop-x.least c.loop-x.invariant (omega arith)
