use Rattle.std.proofs.Common.{◌≡◌, ℕ, ◌<◌}
use Rattle.frac_rows.specs.Rows.{number}
use Rattle.frac_rows.specs.Starts.{own_numbers}
use Rattle.frac_rows.proofs.starts.write_row.Given as goal

abbrev pub invariant-loop-k : goal.invariant-loop-k
invariant-loop-k l = (j : ℕ) → j < l.k → number l.out j ≡ number (own_numbers l.rights l.i) j
