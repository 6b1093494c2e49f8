use Rattle.std.proofs.Common.{◌*◌, ◌≤◌, All, take}
use Rattle.core_cuts.proofs.brought_duals.are_within.Given as goal

abbrev pub invariant-loop-at : goal.invariant-loop-at
invariant-loop-at l = All (λ e. l.times * e.1 ≤ l.most) (take l.at l.dual.u)
