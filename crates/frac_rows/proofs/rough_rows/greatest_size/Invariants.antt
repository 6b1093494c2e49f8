use Rattle.std.proofs.Common.{ℕ, ◌<◌, ◌≤◌, unsigned_abs}
use Rattle.frac_rows.specs.Rows.{number}
use Rattle.frac_rows.proofs.rough_rows.greatest_size.Given as goal

abbrev pub invariant-loop-sum : goal.invariant-loop-sum
invariant-loop-sum l = (k : ℕ) → k < l.sum-index → unsigned_abs (number l.sums k) ≤ l.greatest
