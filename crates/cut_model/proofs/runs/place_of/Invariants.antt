use Rattle.std.proofs.Common.{◌<◌, ◌≤◌, ◌-◌, length}
use Rattle.cut_model.specs.Runs.{begun}
use Rattle.cut_model.proofs.runs.place_of.Given as goal

abbrev pub invariant-loop-high : goal.invariant-loop-high
invariant-loop-high l = record {
  order : l.low < l.high;
  within : l.high ≤ length l.runs;
  from : begun l.runs l.low ≤ l.number;
  to : l.number < begun l.runs l.high;
}

abbrev pub decreases-loop-high : goal.decreases-loop-high
decreases-loop-high l = l.high - l.low
