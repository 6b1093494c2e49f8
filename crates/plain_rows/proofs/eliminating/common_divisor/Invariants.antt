use Rattle.std.proofs.Common.{◌≡◌, ◌≤◌, ◌^◌, drop}
use Rattle.frac_rows.specs.Divisors.{divisor_of}
use Rattle.frac_rows.specs.Rows.{eliminated}
use Rattle.plain_rows.proofs.eliminating.common_divisor.Given as goal

abbrev pub invariant-loop-k : goal.invariant-loop-k
invariant-loop-k l = record {
  value : l.divisor ≡ divisor_of (drop l.k (eliminated l.turn.own l.row l.turn.base l.base));
  size : l.divisor ≤ 2 ^ 125;
}
