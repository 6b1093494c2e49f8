use Rattle.std.proofs.Common.{◌≡◌, map, take}
use Rattle.test_cuts.proofs.masters.masters.views.Given as goal

abbrev pub invariant-loop-row : goal.invariant-loop-row
invariant-loop-row l = map (λ row. row.now) l.views.items ≡ map (λ v. v.items) (take l.row-index l.rows)
