use Rattle.std.proofs.Common.{Contains}
use Rattle.hub_spec.proofs.AllLoops.{all_ended, all_broken, all_goes_on}
use Rattle.cert_conditions.proofs.marks.are_candidates.Goals as goal

pub returns-then-not-is_candidate : goal.returns-then-not-is_candidate
returns-then-not-is_candidate c =
    all_broken (Contains c.args.instance.now.candidates) c.args.nodes.now c.loop-k.k-index 0 c.is_candidate.result c.loop-k-test.true
    c.is_candidate.ensures c.if-not-is_candidate.true

pub loop-k-preserved : goal.loop-k-preserved
loop-k-preserved c =
    all_goes_on (Contains c.args.instance.now.candidates) c.args.nodes.now c.loop-k.k-index 0 c.is_candidate.result c.loop-k-test.true
    c.is_candidate.ensures c.if-not-is_candidate.false c.loop-k.invariant

pub returns : goal.returns
returns c = all_ended (Contains c.args.instance.now.candidates) c.args.nodes.now c.loop-k.k-index c.loop-k-test.false c.loop-k.invariant
