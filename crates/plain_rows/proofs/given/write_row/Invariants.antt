use Rattle.std.proofs.Common.{◌≡◌, ◌≤◌, ℕ, ◌<◌, map, unsigned_abs}
use Rattle.frac_rows.specs.Rows.{widest, number}
use Rattle.plain_rows.specs.Plain.{column_of}
use Rattle.plain_rows.proofs.given.write_row.Given as goal

abbrev pub invariant-loop-k : goal.invariant-loop-k
invariant-loop-k l = record {
  each : (j : ℕ) → j < l.k → number l.out j ≡ number (column_of (map (λ v. v.items) l.constraints) l.objective j) l.i;
  size : (j : ℕ) → j < l.k → unsigned_abs (number l.out j) ≤ widest;
}
