use Rattle.std.proofs.Common.{◌*◌, ◌≤◌, zip, vec_len, vec_capacity}
use Rattle.hub_spec.specs.Cuts.{value_at}
use Rattle.hub_model.proofs.ListedValues.{AreListedUpTo}
use Rattle.core_cuts.proofs.unit_prices.list_times.Given as goal

abbrev pub invariant-loop-k : goal.invariant-loop-k
invariant-loop-k l = record {
  entries : AreListedUpTo (λ k. l.carried * value_at (zip l.candidates l.values) k) l.candidates l.k-index l.list.items;
  few : vec_len l.list ≤ l.k-index;
  room : vec_capacity l.fn.list ≤ vec_capacity l.list;
}
