use Rattle.hub_spec.proofs.AllLoops.{all_ended, all_goes_on}
use Rattle.core_cuts.specs.BasicRatios.{IsWholeAt}
use Rattle.core_cuts.proofs.least_parts.are_whole.Goals as goal

pub loop-ratio-preserved : goal.loop-ratio-preserved
loop-ratio-preserved c =
    all_goes_on (IsWholeAt c.args.part) c.args.ratios.now c.loop-ratio.ratio-index (record { right = 0; over = 0 }) c.is_whole.result c.loop-ratio-test.true
    c.is_whole.ensures c.if-not-is_whole.false c.loop-ratio.invariant

pub returns : goal.returns
returns c = all_ended (IsWholeAt c.args.part) c.args.ratios.now c.loop-ratio.ratio-index c.loop-ratio-test.false c.loop-ratio.invariant
