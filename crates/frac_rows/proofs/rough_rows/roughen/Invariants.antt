use Rattle.std.proofs.Common.{ℕ, ◌<◌, ◌≤◌, pos, ◌-ℤ◌, ◌*ℤ◌, unsigned_abs}
use Rattle.frac_rows.specs.Rows.{number}
use Rattle.frac_rows.proofs.rough_rows.roughen.Given as goal

abbrev pub invariant-loop-k : goal.invariant-loop-k
invariant-loop-k l = (k : ℕ) → k < l.k → unsigned_abs (number l.row k -ℤ pos l.step *ℤ number l.rough k) ≤ l.step
