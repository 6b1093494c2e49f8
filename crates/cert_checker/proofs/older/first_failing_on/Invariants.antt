use Rattle.std.proofs.Common.{◌≡◌, ℕ, ◌<◌}
use Rattle.cert_checker.specs.Duals.{IsDualAt}
use Rattle.cert_checker.proofs.older.first_failing_on.Given as goal

abbrev pub invariant-loop-t : goal.invariant-loop-t
invariant-loop-t l = record {
  same : l.duals.problem ≡ l.fn.duals.problem;
  before : (s : ℕ) → s < l.t → IsDualAt l.fn.duals.problem l.cut.part l.cut.duals s;
}
