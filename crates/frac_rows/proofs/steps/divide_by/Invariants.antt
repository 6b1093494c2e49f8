use Rattle.std.proofs.Common.{ℕ, ◌<◌, ◌≤◌, unsigned_abs}
use Rattle.frac_rows.specs.Rows.{number}
use Rattle.frac_rows.proofs.Divided.{DividesAt}
use Rattle.frac_rows.proofs.steps.divide_by.Given as goal

abbrev pub invariant-loop-k : goal.invariant-loop-k
invariant-loop-k l = record {
  divided : (k : ℕ) → k < l.k → DividesAt l.by.number l.turn.own l.row l.turn.base l.base l.out k;
  sizes : (k : ℕ) → k < l.k → unsigned_abs (number l.out k) ≤ l.most;
}
