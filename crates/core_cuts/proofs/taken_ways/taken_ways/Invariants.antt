use Rattle.std.proofs.Common.{◌≡◌, ◌+◌, ◌++◌, filter, drop}
use Rattle.frac_rows.specs.Rows.{objective}
use Rattle.core_cuts.specs.CoreTables.{ways_of}
use Rattle.core_cuts.specs.Bodies.{is_taken}
use Rattle.core_cuts.proofs.taken_ways.taken_ways.Given as goal

abbrev pub invariant-loop-x : goal.invariant-loop-x
invariant-loop-x l =
    l.ways.items ++ filter is_taken (ways_of (drop l.x l.edges) (drop (l.first + l.x) (objective l.rows)))
    ≡ filter is_taken (ways_of l.edges (drop l.first (objective l.rows)))
