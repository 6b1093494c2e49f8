use Rattle.std.proofs.Common.{◌<◌, length, get_or, arith}
use Rattle.leaf_bound.proofs.LentNumbers.{gain_limit}
use Rattle.leaf_bound.proofs.gains.write_gains_and_base.Goals as goal

pub returns-clause-limit : goal.returns-clause-limit
returns-clause-limit c = λ k node.
    let fixed = get_or c.args.weighting.now.fixed.now k 0 in
    let sum = c.weigh-base.ensures.limit k node in
    let low : k < length c.write_differences.new.gains = omega (arith, node.is_node, c.requires.room, c.write_differences.auto.gains) in
    record {
      is_node = low;
      limit = gain_limit c.args.weighting.now.denom fixed (get_or c.weigh-base.new.sums k 0) _ c.requires.numbers.denom_most node.fixed_limit sum
          (c.write_differences.ensures k low node.fixed_limit sum);
    }
