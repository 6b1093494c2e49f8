use Rattle.std.proofs.Common.{◌≡◌, take}
use Rattle.pareto_cuts.proofs.strong_duals.lent_dual.Given as goal

abbrev pub invariant-loop-value : goal.invariant-loop-value
invariant-loop-value l = l.values.items ≡ take l.value-index l.u
