use Rattle.std.proofs.Common.{◌≡◌, ◌≤◌, ◌^◌, drop, IfSome}
use Rattle.frac_rows.specs.Divisors.{divisor_of}
use Rattle.frac_rows.specs.Rows.{eliminated}
use Rattle.frac_rows.proofs.steps.common_divisor.Given as goal

abbrev pub invariant-loop-k : goal.invariant-loop-k
invariant-loop-k l = record {
  value : l.common.number ≡ divisor_of (drop l.k (eliminated l.turn.own l.row l.turn.base l.base));
  size : l.common.number ≤ 2 ^ 125;
  by : IfSome l.common.by (λ by. by.number ≡ l.common.number);
}
