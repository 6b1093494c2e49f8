use Rattle.std.proofs.Common.{get_or, slice_index, refl, arith}
use Rattle.hub_model.proofs.ListedValues.{listed_more, listed_all}
use Rattle.hub_model.proofs.values.list_values.Goals as goal

pub loop-k-preserved : goal.loop-k-preserved
loop-k-preserved c =
    let vs = c.args.values.now in
    let k = get_or c.args.nodes.now c.loop-k.k-index 0 in
    record {
      entries = listed_more (slice_index vs) c.args.nodes.now c.loop-k.k-index k (slice_index vs k) c.loop-k.list.items c.list_value.new.list.items
          c.loop-k-test.true refl refl c.list_value.ensures.are c.loop-k.invariant.entries;
      few = omega (arith, c.list_value.ensures.few, c.loop-k.invariant.few);
      room = omega (arith, c.list_value.ensures.room, c.loop-k.invariant.room);
    }

pub returns-clause-are : goal.returns-clause-are
returns-clause-are c =
    listed_all (slice_index c.args.values.now) c.args.nodes.now c.loop-k.k-index c.loop-k.list.items c.loop-k-test.false c.loop-k.invariant.entries
