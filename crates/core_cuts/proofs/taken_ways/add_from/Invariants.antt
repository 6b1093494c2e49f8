use Rattle.std.proofs.Common.{◌≡◌, ◌++◌, filter, take}
use Rattle.core_cuts.specs.CoreTables.{begins_at}
use Rattle.core_cuts.proofs.taken_ways.add_from.Given as goal

abbrev pub invariant-loop-way : goal.invariant-loop-way
invariant-loop-way l = l.list.items ≡ l.fn.list.items ++ filter (begins_at l.k) (take l.way-index l.ways)
