use Rattle.std.proofs.Common.{◌≡◌, ℕ, length, ◌+◌, ◌<◌, ◌≤◌, ◌+ℤ◌, ◌*ℤ◌}
use Rattle.std.specs.Int.{w32, int_wrap}
use Rattle.frac_rows.specs.Rows.{number}
use Rattle.frac_rows.proofs.rough_rows.add_block.Given as goal

abbrev pub invariant-loop-l : goal.invariant-loop-l
invariant-loop-l m = record {
  long : length m.sums ≡ 32;
  done : (l : ℕ) → l < m.l → number m.sums l ≡ int_wrap w32 (number m.fn.sums l +ℤ m.factor *ℤ number m.row (m.first + l));
  rest : (l : ℕ) → m.l ≤ l → number m.sums l ≡ number m.fn.sums l;
}
