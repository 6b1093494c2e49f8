use Rattle.std.proofs.Common.{◌≤◌, take}
use Rattle.core_lines.specs.LineParts.{most_unit}
use Rattle.core_lines.proofs.LeastUnits.{IsLeastOver}
use Rattle.core_lines.proofs.lengths.least_unit.Given as goal

abbrev pub invariant-loop-x : goal.invariant-loop-x
invariant-loop-x l = record {
  some : 1 ≤ l.x;
  least : IsLeastOver l.instance (l.i, l.j) (take l.x l.hubs) l.hubs l.least;
  limit : l.least ≤ most_unit;
}
