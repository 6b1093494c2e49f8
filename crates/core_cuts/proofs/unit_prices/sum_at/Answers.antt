use Rattle.std.proofs.Common.{◌≤◌, zip, get_or, rules, arith}
use Rattle.std.proofs.lemmas.List.Sums.{sum_by_more}
use Rattle.hub_spec.specs.Cuts.{value_at}
use Rattle.core_cuts.specs.Readings.{most_units}
use Rattle.core_cuts.proofs.Zipped.{value_at_limit}
use Rattle.core_cuts.proofs.unit_prices.sum_at.Goals as goal
use Rattle.core_cuts.proofs.unit_prices.sum_at.Goals.{After-value_of-sum}

value_low : (c : After-value_of-sum) → c.value_of-sum.result ≤ most_units
value_low c =
    let k = get_or c.args.nodes.now c.loop-k.k-index 0 in
    omega (arith, c.value_of-sum.ensures, value_at_limit most_units c.args.candidates.now c.args.values.now k c.requires.values)

pub overflow_add-sum : goal.overflow_add-sum
overflow_add-sum c =
    let low = value_low (goal.at.overflow_add-sum c).After-value_of-sum in
    search (rules, arith)

pub loop-k-preserved : goal.loop-k-preserved
loop-k-preserved c =
    let low = value_low (goal.at.loop-k-preserved c).After-value_of-sum in
    record {
      value = omega (
        arith,
        sum_by_more (value_at (zip c.args.candidates.now c.args.values.now)) c.args.nodes.now c.loop-k.k-index 0 c.loop-k-test.true,
        c.value_of-sum.ensures,
        c.loop-k.invariant.value,
      );
      limit = omega (arith, low, c.loop-k.invariant.limit);
    }
