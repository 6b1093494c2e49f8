use Rattle.std.proofs.Common.{Contains}
use Rattle.hub_spec.proofs.AllLoops.{all_ended, all_broken, all_goes_on}
use Rattle.hub_model.proofs.node_lists.are_among.Goals as goal

pub returns-then-not-is_among : goal.returns-then-not-is_among
returns-then-not-is_among c =
    all_broken (Contains c.args.nodes.now) c.args.members.now c.loop-k.k-index 0 c.is_among.result c.loop-k-test.true c.is_among.ensures
    c.if-not-is_among.true

pub loop-k-preserved : goal.loop-k-preserved
loop-k-preserved c =
    all_goes_on (Contains c.args.nodes.now) c.args.members.now c.loop-k.k-index 0 c.is_among.result c.loop-k-test.true c.is_among.ensures
    c.if-not-is_among.false c.loop-k.invariant

pub returns : goal.returns
returns c = all_ended (Contains c.args.nodes.now) c.args.members.now c.loop-k.k-index c.loop-k-test.false c.loop-k.invariant
