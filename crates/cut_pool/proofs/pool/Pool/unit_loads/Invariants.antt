use Rattle.std.proofs.Common.{◌≡◌, map, take}
use Rattle.cut_pool.specs.Entries.{unit_loads}
use Rattle.cut_pool.proofs.pool.Pool.unit_loads.Given as goal

abbrev pub invariant-loop-place : goal.invariant-loop-place
invariant-loop-place l = map (λ row. row.now) l.rows.items ≡ take l.place (unit_loads l.self.entries)
