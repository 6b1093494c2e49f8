use Rattle.std.proofs.Common.{◌≡◌, take}
use Rattle.cut_model.proofs.duals.StatedDual.is_same.Given as goal

abbrev pub invariant-loop-at : goal.invariant-loop-at
invariant-loop-at l = take l.at l.self.u ≡ take l.at l.other.u
