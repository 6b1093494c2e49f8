use Rattle.std.proofs.Common.{◌≡◌, flat_map, take}
use Rattle.core_cuts.specs.Bodies.{way_row}
use Rattle.core_cuts.proofs.tables.core_rows.Given as goal

abbrev pub invariant-loop-k : goal.invariant-loop-k
invariant-loop-k l = l.numbers.items ≡ flat_map (way_row l.candidates) (take l.k-index l.edges)
