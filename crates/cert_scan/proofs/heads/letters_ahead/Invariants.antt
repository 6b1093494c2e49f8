use Rattle.std.proofs.Common.{take}
use Rattle.cert_scan.specs.Runs.{GoesOn}
use Rattle.cert_scan.specs.Moves.{keyword_of}
use Rattle.cert_scan.proofs.heads.letters_ahead.Given as goal

abbrev pub invariant-loop-i : goal.invariant-loop-i
invariant-loop-i l = GoesOn (keyword_of l.fn.head) l.matched (take l.i l.bytes)
