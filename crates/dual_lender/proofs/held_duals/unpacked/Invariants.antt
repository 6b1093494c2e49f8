use Rattle.std.proofs.Common.{◌≡◌, ◌≤◌, take, vec_len, vec_capacity}
use Rattle.hub_model.specs.Prices.{signed_values}
use Rattle.dual_lender.proofs.held_duals.unpacked.Given as goal

abbrev pub invariant-loop-at : goal.invariant-loop-at
invariant-loop-at l = record {
  are : l.list.items ≡ signed_values (take l.at l.dual.u);
  few : vec_len l.list ≤ l.at;
  room : vec_capacity l.fn.list ≤ vec_capacity l.list;
}
