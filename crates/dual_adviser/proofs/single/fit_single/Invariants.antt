use Rattle.std.proofs.Common.{◌≡◌}
use Rattle.dual_adviser.proofs.single.fit_single.Given as goal

abbrev pub invariant-loop-i : goal.invariant-loop-i
invariant-loop-i l = l.state ≡ l.fn.state
