use Rattle.std.proofs.Common.{◌≡◌, ℕ, ◌<◌}
use Rattle.frac_rows.specs.Rows.{number}
use Rattle.frac_rows.specs.Stored.{whole_row}
use Rattle.frac_rows.proofs.entering.write_entering.Given as goal

abbrev pub invariant-loop-i : goal.invariant-loop-i
invariant-loop-i l = (k : ℕ) → k < l.i → number l.entering k ≡ number (whole_row l.columns l.numbers k) l.column
