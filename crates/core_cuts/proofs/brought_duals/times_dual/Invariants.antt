use Rattle.std.proofs.Common.{◌≡◌, take}
use Rattle.hub_model.specs.Prices.{signed_values}
use Rattle.core_cuts.specs.FoundCuts.{times_values}
use Rattle.core_cuts.proofs.brought_duals.times_dual.Given as goal

abbrev pub invariant-loop-at : goal.invariant-loop-at
invariant-loop-at l = l.u.items ≡ signed_values (times_values l.times (take l.at l.dual.u))
