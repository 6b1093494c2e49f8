use Rattle.std.proofs.Common.{◌^◌, ◌<◌, ◌≤◌, All, length}
use Rattle.unit_duals.specs.Lowered.{AreLowered}
use Rattle.unit_duals.proofs.lowering.lower_by_hubs.Given as goal

abbrev pub invariant-loop-x : goal.invariant-loop-x
invariant-loop-x l = record {
  lowered : AreLowered (length l.fn.items) l.bases l.table l.start l.x l.initial.items l.items;
  most : All (λ d. d ≤ l.most) l.items;
  limit : All (λ d. d < 2 ^ 63) l.items;
}
