use Rattle.std.proofs.Common.{◌≡◌, ℕ, ◌<◌, length, slice_index}
use Rattle.par_separate.proofs.AddedOrigins.{total_to, load_to}
use Rattle.par_separate.proofs.adding.added.Given as goal

abbrev pub invariant-loop-origin : goal.invariant-loop-origin
invariant-loop-origin l = record {
  total : l.total ≡ total_to l.separation l.origin-index;
  long : length l.loads.items ≡ l.separation.problem.size;
  loads : (k : ℕ) → k < l.separation.problem.size → slice_index l.loads.items k ≡ load_to l.separation k l.origin-index;
}
