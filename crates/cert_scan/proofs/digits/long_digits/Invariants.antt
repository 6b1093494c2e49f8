use Rattle.std.proofs.Common.{take}
use Rattle.cert_scan.specs.Runs.{SpellsOn}
use Rattle.cert_scan.proofs.digits.long_digits.Given as goal

abbrev pub invariant-loop-i : goal.invariant-loop-i
invariant-loop-i l = SpellsOn l.fn.first (take l.i l.bytes) l.value
