use Rattle.std.proofs.Common.{◌+◌, ◌≤◌, length, slice_index, All}
use Rattle.leg_duals.specs.Ways.{IsWay, no_way}
use Rattle.leg_duals.specs.Lowered.{AreLowered, IsSpared}
use Rattle.leg_duals.proofs.turns.lower_from_hubs.Given as goal

abbrev pub invariant-loop-x : goal.invariant-loop-x
invariant-loop-x l = record {
  lowered : AreLowered l.ways.size l.x (λ x. IsSpared l.ways l.reaches (length l.ways.order + x) l.t)
      (λ x. IsWay l.ways (length l.ways.order + x) l.t) (slice_index l.fn.least) (slice_index l.least);
  limit : All (λ d. d ≤ no_way) l.least;
}
