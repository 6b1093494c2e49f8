use Rattle.std.proofs.Common.{◌≡◌, flat_map, filter, take}
use Rattle.core_cuts.specs.CoreTables.{begins_at}
use Rattle.core_cuts.proofs.taken_ways.ordered_ways.Given as goal

abbrev pub invariant-loop-k : goal.invariant-loop-k
invariant-loop-k l = l.list.items ≡ flat_map (λ k. filter (begins_at k) l.ways) (take l.k-index l.nodes)
