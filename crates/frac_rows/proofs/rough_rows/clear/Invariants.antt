use Rattle.std.proofs.Common.{◌≡◌, ℕ, ◌<◌, pos}
use Rattle.frac_rows.specs.Rows.{number}
use Rattle.frac_rows.proofs.rough_rows.clear.Given as goal

abbrev pub invariant-loop-sum : goal.invariant-loop-sum
invariant-loop-sum l = (k : ℕ) → k < l.sum-index → number l.sums k ≡ pos 0
