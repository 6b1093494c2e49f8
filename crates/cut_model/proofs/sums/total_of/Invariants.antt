use Rattle.std.proofs.Common.{◌≡◌, ◌≤◌, ◌*◌, ◌^◌, sum_by, take}
use Rattle.cut_model.specs.Runs.{begun, run_total}
use Rattle.cut_model.proofs.sums.total_of.Given as goal

abbrev pub invariant-loop-run : goal.invariant-loop-run
invariant-loop-run l = record {
  value : l.sum ≡ sum_by run_total (take l.run-index l.runs);
  limit : l.sum ≤ begun l.runs l.run-index * 10 ^ 33;
}
