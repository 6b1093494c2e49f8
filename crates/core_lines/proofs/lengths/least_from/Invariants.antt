use Rattle.std.proofs.Common.{◌≤◌, take}
use Rattle.core_lines.specs.LineParts.{most_unit, IsLeastFrom}
use Rattle.core_lines.proofs.lengths.least_from.Given as goal

abbrev pub invariant-loop-x : goal.invariant-loop-x
invariant-loop-x l = record {
  some : 1 ≤ l.x;
  least : IsLeastFrom l.instance (l.i, l.j) l.k (take l.x l.hubs) l.least;
  limit : l.least ≤ most_unit;
}
