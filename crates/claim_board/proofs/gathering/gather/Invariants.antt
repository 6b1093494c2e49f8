use Rattle.std.proofs.Common.{◌≡◌, ◌<◌, ◌⊎◌, map}
use Rattle.std.specs.Prelude.{All}
use Rattle.std.specs.List.{AllZip, range_with_len}
use Rattle.claim_board.specs.Crops.{block_of, IsAnswered}
use Rattle.claim_board.proofs.gathering.gather.Given as goal

abbrev pub invariant-loop-block : goal.invariant-loop-block
invariant-loop-block g l =
    (map block_of l.rows.items ≡ map block_of l.initial.rows.items)
    × All (λ r. (r.block < l.block) ⊎ IsAnswered (g.J.Job.answer l._job) r) l.rows.items
    × AllZip (g.J.Job.answer l._job) (range_with_len 0 l.block) l.answers.items
