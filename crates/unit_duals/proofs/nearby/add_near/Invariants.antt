use Rattle.std.proofs.Common.{◌+◌, ◌≤◌, slice_index}
use Rattle.std.specs.List.{SameBelow}
use Rattle.unit_duals.specs.Nearness.{IsNearPart}
use Rattle.unit_duals.proofs.nearby.add_near.Given as goal

abbrev pub invariant-loop-j : goal.invariant-loop-j
invariant-loop-j l = record {
  kept : SameBelow l.fn.nodes l.nodes l.start;
  longer : l.end ≤ l.start + l.j;
  list : IsNearPart l.j (λ j. slice_index l.back j ≤ l.leg + slice_index l.last j) l.start l.end l.nodes;
}
