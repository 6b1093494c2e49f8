use Rattle.std.proofs.Common.{take, drop}
use Rattle.cert_scan.specs.Digits.{Spell}
use Rattle.cert_scan.proofs.digits.last_digits.Given as goal

abbrev pub invariant-loop-i : goal.invariant-loop-i
invariant-loop-i l = Spell (take l.i (drop l.at l.bytes)) l.value
