use Rattle.std.proofs.Common.{◌≡◌, ◌++◌}
use Rattle.core_cuts.specs.CoreTables.{core_edges}
use Rattle.core_cuts.specs.Ahead.{AreCosts}
use Rattle.core_cuts.proofs.NeededLists.{needed_from}
use Rattle.core_cuts.proofs.ways.RouteWays.of.Given as goal

abbrev pub invariant-loop-x : goal.invariant-loop-x
invariant-loop-x l =
    (l.ways.edges.items ++ needed_from l.instance (l.i, l.j) l.x ≡ core_edges l.instance (l.i, l.j))
    × AreCosts l.instance (l.i, l.j) l.ways.edges.items l.ways.rights.items
