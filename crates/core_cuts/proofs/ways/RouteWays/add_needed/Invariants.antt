use Rattle.std.proofs.Common.{◌≡◌, ◌++◌}
use Rattle.core_cuts.specs.Ahead.{AreCosts}
use Rattle.core_cuts.proofs.NeededLists.{first_needed}
use Rattle.core_cuts.proofs.ways.RouteWays.add_needed.Given as goal

abbrev pub invariant-loop-x : goal.invariant-loop-x
invariant-loop-x l =
    (l.self.edges.items ≡ l.fn.self.edges.items ++ first_needed l.commodity.instance.now (l.commodity.i, l.commodity.j) l.k l.later l.x)
    × AreCosts l.commodity.instance.now (l.commodity.i, l.commodity.j) l.self.edges.items l.self.rights.items
