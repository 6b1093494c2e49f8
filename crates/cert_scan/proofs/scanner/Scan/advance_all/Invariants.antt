use Rattle.std.proofs.Common.{◌-◌, length}
use Rattle.cert_scan.proofs.Stepping.{HasRun}
use Rattle.cert_scan.proofs.scanner.Scan.advance_all.Given as goal

abbrev pub invariant-loop-at : goal.invariant-loop-at
invariant-loop-at l = HasRun l.fn.self l.bytes l.at l.self

abbrev pub decreases-loop-at : goal.decreases-loop-at
decreases-loop-at l = length l.bytes - l.at
