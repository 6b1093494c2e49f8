use Rattle.std.proofs.Common.{◌≡◌}
use Rattle.dual_adviser.proofs.adviser.Adviser.choose_branch.Given as goal

abbrev pub invariant-loop-number : goal.invariant-loop-number
invariant-loop-number g l = l.self ≡ l.fn.self
