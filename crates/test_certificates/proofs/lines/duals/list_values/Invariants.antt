use Rattle.std.proofs.Common.{◌≡◌, ℕ, ◌<◌, All}
use Rattle.test_certificates.proofs.lines.duals.list_values.Given as goal

abbrev pub invariant-loop-at : goal.invariant-loop-at
invariant-loop-at l = record {
  above : All (λ (e : ℕ × ℕ). e.0 < l.next) l.line.dual.u;
  size : l.size ≡ l.line.problem.size;
}
