use Rattle.std.proofs.Common.{◌≡◌, ℕ, ◌<◌}
use Rattle.frac_rows.specs.Rows.{number}
use Rattle.plain_rows.proofs.starts.write_row.Given as goal

abbrev pub invariant-loop-k : goal.invariant-loop-k
invariant-loop-k l = (j : ℕ) → j < l.k → number l.out j ≡ number l.row j
