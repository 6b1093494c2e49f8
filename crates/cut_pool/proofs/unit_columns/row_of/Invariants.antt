use Rattle.std.proofs.Common.{◌≡◌, ◌/◌, map, take}
use Rattle.cut_pool.proofs.unit_columns.row_of.Given as goal

abbrev pub invariant-loop-load : goal.invariant-loop-load
invariant-loop-load l = l.row.items ≡ map (λ u. u / l.part) (take l.load-index l.loads)
