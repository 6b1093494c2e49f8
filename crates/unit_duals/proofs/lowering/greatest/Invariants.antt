use Rattle.std.proofs.Common.{ℕ, ◌^◌, ◌<◌, ◌≤◌, slice_index}
use Rattle.unit_duals.proofs.lowering.greatest.Given as goal

abbrev pub invariant-loop-item : goal.invariant-loop-item
invariant-loop-item l = record {
  above : (y : ℕ) → y < l.item-index → slice_index l.items y ≤ l.most;
  limit : l.most < 2 ^ 63;
}
