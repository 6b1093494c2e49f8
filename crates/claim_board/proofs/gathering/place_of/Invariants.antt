use Rattle.std.proofs.Common.{◌<◌, drop}
use Rattle.std.specs.Prelude.{◌==◌, count_by}
use Rattle.claim_board.proofs.gathering.place_of.Given as goal

abbrev pub invariant-loop-i : goal.invariant-loop-i
invariant-loop-i g l = 0 < count_by (λ r. r.block == l.block) (drop l.i l.rows)
