use Rattle.std.proofs.Common.{◌≡◌, take}
use Rattle.cut_pool.specs.Entries.{most_unit}
use Rattle.cut_pool.proofs.unit_columns.most_per_unit.Given as goal

abbrev pub invariant-loop-load : goal.invariant-loop-load
invariant-loop-load l = l.most ≡ most_unit l.part (take l.load-index l.loads)
