use Rattle.std.proofs.Common.{◌≡◌, ℕ, ◌+◌, ◌<◌, ◌≤◌, length, slice_index}
use Rattle.par_separate.proofs.adding.add_each.Given as goal

abbrev pub invariant-loop-k : goal.invariant-loop-k
invariant-loop-k l = record {
  long : length l.loads ≡ length l.fn.loads;
  added : (j : ℕ) → j < l.k → slice_index l.loads j ≡ slice_index l.fn.loads j + slice_index l.more j;
  rest : (j : ℕ) → l.k ≤ j → slice_index l.loads j ≡ slice_index l.fn.loads j;
}
