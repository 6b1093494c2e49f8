use Rattle.std.proofs.Common.{arith}
use Rattle.cut_pool.proofs.ShortRows.{all_halved}
use Rattle.cut_pool.proofs.short_loads.halve.Goals as goal

pub returns : goal.returns
returns c =
    all_halved c.args.halvings c.loop-number.number-index c.args.numbers.now c.loop-number.numbers (omega arith) (omega arith) c.loop-number.invariant.done
