use Rattle.std.proofs.Common.{◌+◌, ◌*◌, ◌≤◌, vec_len, vec_capacity}
use Rattle.cut_model.specs.ValueRows.{node_value}
use Rattle.hub_model.proofs.ListedValues.{AreListedUpTo}
use Rattle.value_cuts.proofs.duals.list_values.Given as goal

abbrev pub invariant-loop-x : goal.invariant-loop-x
invariant-loop-x l = record {
  entries : AreListedUpTo (λ k. l.offset + l.flow * node_value l.tables l.unit l.row k) l.tables.candidates l.x l.u.items;
  few : vec_len l.u ≤ l.x;
  room : vec_capacity l.fn.u ≤ vec_capacity l.u;
}
