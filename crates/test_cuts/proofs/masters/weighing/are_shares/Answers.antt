use Rattle.std.proofs.Common.{ℕ, arith}
use Rattle.std.proofs.lemmas.List.Sums.{sum_by_more}
use Rattle.test_cuts.proofs.masters.weighing.are_shares.Goals as goal

pub loop-weight-preserved : goal.loop-weight-preserved
loop-weight-preserved c =
    let more = sum_by_more (λ (n : ℕ). n) c.args.weights.now c.loop-weight.weight-index 0 c.loop-weight-test.true in
    omega (arith, more, c.loop-weight.invariant, c.if-weight-left.false)
