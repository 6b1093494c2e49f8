use Rattle.std.proofs.Common.{◌≡◌, ℕ, length, get_or, sum_by, take}
use Rattle.cut_model.specs.Runs.{run_load}
use Rattle.cut_model.proofs.sums.loads_of.Given as goal

abbrev pub invariant-loop-run : goal.invariant-loop-run
invariant-loop-run l = record {
  same : length l.loads.items ≡ l.n;
  sums : (k : ℕ) → get_or l.loads.items k 0 ≡ sum_by (run_load l.values k) (take l.run-index l.runs);
}
