use Rattle.core_cuts.proofs.Zipped.{value_later}
use Rattle.core_cuts.proofs.unit_prices.value_of.Goals as goal

pub loop-x-preserved : goal.loop-x-preserved
loop-x-preserved c =
    value_later c.args.candidates.now c.args.values.now c.loop-x.x c.args.node c.loop-x-test.true c.requires c.if-candidates-x.false c.loop-x.invariant
