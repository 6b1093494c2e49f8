use Rattle.std.proofs.Common.{◌*◌, ap, arith}
use Rattle.core_lines.proofs.lengths.way_units.Goals as goal

pub returns-clause-cost : goal.returns-clause-cost
returns-clause-cost c = λ any.
    let cost = ap (λ n. c.args.often * n) (c.pair_unit.ensures.cost any) in
    omega (arith, cost)
