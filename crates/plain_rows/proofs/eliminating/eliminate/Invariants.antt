use Rattle.std.proofs.Common.{◌≡◌, ◌-ℤ◌, ◌*ℤ◌, ◌≤◌, ℕ, ◌<◌, unsigned_abs}
use Rattle.frac_rows.specs.Rows.{widest, number}
use Rattle.plain_rows.proofs.eliminating.eliminate.Given as goal

abbrev pub invariant-loop-k : goal.invariant-loop-k
invariant-loop-k l = record {
  done : (k : ℕ) → k < l.k → number l.row k ≡ l.turn.own *ℤ number l.fn.row k -ℤ l.turn.base *ℤ number l.base k;
  size : (k : ℕ) → k < l.k → unsigned_abs (number l.row k) ≤ widest;
  rest : (k : ℕ) → l.k ≤ k → number l.row k ≡ number l.fn.row k;
}
