use Rattle.core_cuts.proofs.TimesDuals.{IsBroughtUpTo}
use Rattle.core_cuts.proofs.brought_cuts.cut_of.Given as goal

abbrev pub invariant-loop-t : goal.invariant-loop-t
invariant-loop-t l = IsBroughtUpTo l.instance l.part l.t l.founds l.cut
