use Rattle.std.proofs.Common.{◌≡◌, ◌≤◌}
use Rattle.cert_checker.specs.Runs.{begun}
use Rattle.cert_checker.proofs.runs.runs_begun.Given as goal

abbrev pub invariant-loop-u : goal.invariant-loop-u
invariant-loop-u l = record { value : l.count ≡ begun l.n l.cut.duals l.u; limit : l.count ≤ l.u }
