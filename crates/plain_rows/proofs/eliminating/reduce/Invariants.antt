use Rattle.std.proofs.Common.{◌≡◌, ℕ, ◌<◌, ◌≤◌}
use Rattle.frac_rows.specs.Rows.{number}
use Rattle.frac_rows.proofs.Divided.{ReducesAt}
use Rattle.plain_rows.proofs.eliminating.reduce.Given as goal

abbrev pub invariant-loop-k : goal.invariant-loop-k
invariant-loop-k l = record {
  done : (k : ℕ) → k < l.k → ReducesAt l.turn.own l.fn.row l.turn.base l.base l.row k;
  rest : (k : ℕ) → l.k ≤ k → number l.row k ≡ number l.fn.row k;
}
