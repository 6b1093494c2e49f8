use Rattle.std.proofs.Common.{ℕ, ◌+◌, slice_index, length, refl, sym, arith}
use Rattle.unit_duals.proofs.LeastNumbers.{least_of-none, least_step, least_all}
use Rattle.value_cuts.proofs.pricing.least_sum.Goals as goal

pub loop-x-init : goal.loop-x-init
loop-x-init c = sym (least_of-none c.args.most (λ x. slice_index c.args.legs.now x + slice_index c.args.ends.now x))

pub loop-x-preserved : goal.loop-x-preserved
loop-x-preserved c =
    let f : ℕ → ℕ = λ x. slice_index c.args.legs.now x + slice_index c.args.ends.now x in
    least_step c.args.most f c.loop-x.x c.loop-x.least (f c.loop-x.x) c.min-least.result c.loop-x.invariant refl c.min-least.ensures

pub returns : goal.returns
returns c =
    let f : ℕ → ℕ = λ x. slice_index c.args.legs.now x + slice_index c.args.ends.now x in
    least_all c.args.most f c.loop-x.x (length c.args.legs.now) c.loop-x.least c.loop-x.invariant (omega arith)
