use Rattle.std.proofs.Common.{◌≡◌, ℕ, ◌<◌, take, sum_by, slice_index}
use Rattle.hub_spec.specs.Problem.{commodities, commodity_at}
use Rattle.cut_model.specs.ValueRows.{offset_of}
use Rattle.cut_model.proofs.ValueCuts.{price_of, value_of}
use Rattle.value_cuts.proofs.sums.sums_of.Given as goal

abbrev pub invariant-loop-t : goal.invariant-loop-t
invariant-loop-t l = record {
  offset : l.offset ≡ offset_of l.tables l.values.offset (commodity_at l.tables.size l.t);
  total : l.total ≡ sum_by (price_of l.tables l.values) (take l.t (commodities l.tables.size));
  loads : (k : ℕ) → k < l.tables.size
      → slice_index l.loads k ≡ sum_by (value_of l.tables l.values k) (take l.t (commodities l.tables.size));
}
