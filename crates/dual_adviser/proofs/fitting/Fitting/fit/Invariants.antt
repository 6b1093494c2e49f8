use Rattle.std.proofs.Common.{◌≡◌}
use Rattle.dual_adviser.proofs.fitting.Fitting.fit.Given as goal

abbrev pub invariant-loop-number : goal.invariant-loop-number
invariant-loop-number g l = l.state ≡ l.fn.state

abbrev pub invariant-loop-e : goal.invariant-loop-e
invariant-loop-e g l = l.state ≡ l.fn.state
