use Rattle.std.proofs.Common.{◌≡◌, ◌+◌, ◌*◌, ◌≤◌}
use Rattle.cert_checker.proofs.OlderCuts.{AreCutsBefore}
use Rattle.cert_checker.proofs.older.check_cuts.Given as goal

abbrev pub invariant-loop-x : goal.invariant-loop-x
invariant-loop-x g l = record {
  same : l.duals.problem ≡ l.instance;
  before : AreCutsBefore l.instance l.certificate l.x l.line;
  limit : l.line ≤ 40007 + 80001 * l.x;
}
