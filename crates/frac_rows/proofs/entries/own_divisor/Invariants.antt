use Rattle.std.proofs.Common.{◌≡◌, ◌≤◌, drop}
use Rattle.frac_rows.specs.Divisors.{divisor_of}
use Rattle.frac_rows.specs.Rows.{widest}
use Rattle.frac_rows.proofs.entries.own_divisor.Given as goal

abbrev pub invariant-loop-k : goal.invariant-loop-k
invariant-loop-k l = record { value : l.divisor ≡ divisor_of (drop l.k l.row); size : l.divisor ≤ widest }
