use Rattle.std.proofs.Common.{◌≤◌, take, All}
use Rattle.std.specs.Prelude.{slice_index}
use Rattle.cert_checker.proofs.older.are_loads_within.Given as goal

abbrev pub invariant-loop-k : goal.invariant-loop-k
invariant-loop-k l = All (λ k. slice_index l.loads k ≤ l.limit) (take l.k-index l.candidates)
