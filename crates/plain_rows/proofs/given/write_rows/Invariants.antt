use Rattle.std.proofs.Common.{map}
use Rattle.plain_rows.specs.Plain.{AreGiven}
use Rattle.plain_rows.proofs.given.write_rows.Given as goal

abbrev pub invariant-loop-i : goal.invariant-loop-i
invariant-loop-i l = AreGiven (map (λ v. v.items) l.constraints) l.objective l.i l.given
