use Rattle.std.proofs.Common.{refl}
use Rattle.std.specs.Prelude.{slice_index}
use Rattle.cut_pool.proofs.Packing.{front_further}
use Rattle.cut_pool.proofs.packed.packed.Goals as goal

pub loop-at-preserved : goal.loop-at-preserved
loop-at-preserved c =
    front_further c.args.numbers.now c.loop-at.at (slice_index c.args.numbers.now c.loop-at.at) c.loop-at.items.items
    c.list.new.items.items c.loop-at-test.true refl c.loop-at.invariant c.in_ok-list.ensures.zero c.in_ok-list.ensures.above
