use Rattle.std.proofs.Common.{◌≤◌, slice_index, vec_len, vec_capacity}
use Rattle.hub_model.proofs.ListedValues.{AreListedUpTo}
use Rattle.hub_model.proofs.values.list_values.Given as goal

abbrev pub invariant-loop-k : goal.invariant-loop-k
invariant-loop-k l = record {
  entries : AreListedUpTo (slice_index l.values) l.nodes l.k-index l.list.items;
  few : vec_len l.list ≤ l.k-index;
  room : vec_capacity l.fn.list ≤ vec_capacity l.list;
}
