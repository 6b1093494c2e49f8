use Rattle.p_hub.proofs.RisingGains.{IsFrontSum}
use Rattle.p_hub.proofs.bounds.bound_by_rising.Given as goal

abbrev pub invariant-loop-i : goal.invariant-loop-i
invariant-loop-i l = IsFrontSum l.rising l.i l.missing
