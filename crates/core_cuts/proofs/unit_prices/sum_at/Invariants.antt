use Rattle.std.proofs.Common.{◌≡◌, ◌≤◌, ◌*◌, take, zip, sum_by}
use Rattle.hub_spec.specs.Cuts.{value_at}
use Rattle.core_cuts.specs.Readings.{most_units}
use Rattle.core_cuts.proofs.unit_prices.sum_at.Given as goal

abbrev pub invariant-loop-k : goal.invariant-loop-k
invariant-loop-k l = record {
  value : l.sum ≡ sum_by (value_at (zip l.candidates l.values)) (take l.k-index l.nodes);
  limit : l.sum ≤ l.k-index * most_units;
}
