use Rattle.std.proofs.Common.{◌≡◌, ℕ, All, Vec, Global, length, take}
use Rattle.test_cuts.proofs.masters.masters.are_rows.Given as goal

abbrev pub invariant-loop-row : goal.invariant-loop-row
invariant-loop-row l = All (λ (v : Vec ℕ Global). length v.items ≡ l.nodes) (take l.row-index l.rows)
