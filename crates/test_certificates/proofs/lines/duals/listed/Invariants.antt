use Rattle.std.proofs.Common.{◌≡◌}
use Rattle.test_certificates.proofs.lines.duals.listed.Given as goal

abbrev pub invariant-loop-dual : goal.invariant-loop-dual
invariant-loop-dual g l = l.size ≡ l.line.problem.size
