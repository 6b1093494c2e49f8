use Rattle.std.proofs.Common.{◌≡◌, ℕ, ◌*◌, ◌<◌, ◌≤◌, take, sum_by, slice_index}
use Rattle.hub_spec.specs.Problem.{commodities}
use Rattle.pareto_cuts.specs.Scratches.{IsReadyFor}
use Rattle.pareto_cuts.proofs.SetSums.{price_of, value_of}
use Rattle.pareto_cuts.proofs.set_cuts.cut_sums.Given as goal

abbrev pub invariant-loop-i : goal.invariant-loop-i
invariant-loop-i l = record {
  total : l.total ≡ sum_by (price_of l.instance l.set l.order) (take (l.i * l.instance.size) (commodities l.instance.size));
  loads : (k : ℕ) → k < l.instance.size → slice_index l.loads k
      ≡ sum_by (value_of l.instance l.set l.order k) (take (l.i * l.instance.size) (commodities l.instance.size));
  ready : IsReadyFor l.instance l.set l.order l.scratch;
  room : l.instance.size ≤ l.scratch.room;
  same_room : l.scratch.room ≡ l.fn.scratch.room;
}
