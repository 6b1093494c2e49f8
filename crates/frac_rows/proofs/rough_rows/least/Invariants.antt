use Rattle.std.proofs.Common.{ℕ, ◌<◌, ◌≤ℤ◌}
use Rattle.frac_rows.specs.Rows.{number}
use Rattle.frac_rows.proofs.rough_rows.least.Given as goal

abbrev pub invariant-loop-sum : goal.invariant-loop-sum
invariant-loop-sum l = (k : ℕ) → k < l.sum-index → l.least ≤ℤ number l.sums k
