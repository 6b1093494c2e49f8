use Rattle.std.proofs.Common.{ℕ, ◌<◌, ◌≤◌, ◌≤ℤ◌, All, unsigned_abs, pos}
use Rattle.frac_rows.specs.Rows.{number}
use Rattle.frac_rows.proofs.starts.top_of.Given as goal

abbrev pub invariant-loop-x : goal.invariant-loop-x
invariant-loop-x l = record {
  above_low : (j : ℕ) → j < l.x-index → l.low ≤ℤ number l.row j;
  below_high : (j : ℕ) → j < l.x-index → number l.row j ≤ℤ l.high;
  low : l.low ≤ℤ pos 0;
  high : pos 0 ≤ℤ l.high;
  least : (b : ℕ) → All (λ x. unsigned_abs x ≤ b) l.row → unsigned_abs l.low ≤ b;
  greatest : (b : ℕ) → All (λ x. unsigned_abs x ≤ b) l.row → unsigned_abs l.high ≤ b;
}
