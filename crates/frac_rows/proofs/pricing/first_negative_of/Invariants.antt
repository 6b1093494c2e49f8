use Rattle.std.proofs.Common.{◌≡◌, ℕ, ◌-◌, ◌<◌, false, length}
use Rattle.std.specs.Int.{is_negative}
use Rattle.frac_rows.specs.Rows.{number}
use Rattle.frac_rows.specs.Stored.{columns_of, extended}
use Rattle.frac_rows.proofs.pricing.first_negative_of.Given as goal

abbrev pub invariant-loop-j : goal.invariant-loop-j
invariant-loop-j l =
    (k : ℕ) → k < l.j → is_negative (number (extended (columns_of (length l.row - 1) l.variables l.numbers) l.row) k) ≡ false
