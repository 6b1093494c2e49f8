use Rattle.std.proofs.Common.{◌≢◌, ℕ, ◌<◌, get_or}
use Rattle.plain_rows.proofs.entries.number_before_right.Given as goal

abbrev pub invariant-loop-c : goal.invariant-loop-c
invariant-loop-c l = (a : ℕ) → a < l.c → get_or l.outside a 0 ≢ l.column
