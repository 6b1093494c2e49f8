use Rattle.std.proofs.Common.{◌≡◌, IfSome}
use Rattle.std.specs.Option.{option_map}
use Rattle.frac_rows.specs.Rows.{leaving_of}
use Rattle.frac_rows.specs.Stored.{table_of}
use Rattle.frac_rows.specs.Steps.{IsCandidate}
use Rattle.frac_rows.proofs.choices.leaving.Given as goal

abbrev pub invariant-loop-i : goal.invariant-loop-i
invariant-loop-i l = record {
  value : option_map (λ b. b.row) l.best ≡ leaving_of (table_of l.columns l.numbers l.basis) l.entering.column l.i;
  candidate : IfSome l.best (λ b. IsCandidate l.columns l.numbers l.entering.column b.row b.right b.number);
}
