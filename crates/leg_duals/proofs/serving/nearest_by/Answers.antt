use Rattle.std.proofs.Common.{slice_index, arith, sym}
use Rattle.std.proofs.lemmas.List.Elements.{Contains-get_or}
use Rattle.leg_duals.proofs.NearestHubs.{member_is_node, nearest_more, nearest_all}
use Rattle.leg_duals.proofs.serving.nearest_by.Goals as goal

pub loop-k-init : goal.loop-k-init
loop-k-init c = record {
  reached = (slice_index c.args.hubs.now 0, Contains-get_or c.args.hubs.now 0 0 c.requires.set.some_hub, sym c.away_by-least.ensures.value);
  least = λ y below. absurd (omega (arith, below));
  limit = c.away_by-least.ensures.limit;
}

pub away_by-requires-clause-first : goal.away_by-requires-clause-first
away_by-requires-clause-first c = member_is_node c.args.instance.now c.args.hubs.now c.loop-k.k-index c.requires.problem c.requires.set c.loop-k-test.true

pub loop-k-preserved : goal.loop-k-preserved
loop-k-preserved c =
    nearest_more c.args.instance.now c.args.hubs.now c.args.i c.args.m c.loop-k.k-index c.loop-k.least c.away_by.result c.min-least.result
    c.loop-k-test.true c.away_by.ensures.value c.min-least.ensures c.loop-k.invariant

pub returns : goal.returns
returns c =
    nearest_all c.args.instance.now c.args.hubs.now c.args.i c.args.m c.loop-k.k-index c.loop-k.least c.loop-k-test.false c.loop-k.invariant
