use Rattle.std.proofs.Common.{rules, ◌≡◌, ◌∙◌, ◌<◌, ◌+◌, sym, subst, refl, length}
use Rattle.std.specs.Prelude.{count_by, ◌==◌, HoldsAt}
use Rattle.std.specs.List.{AllZip, range_with_len}
use Rattle.claim_board.proofs.Rows.{has_row, here_answered, not_none, its_answer, taken_blocks, taken_passed, answers_further}
use Rattle.claim_board.proofs.gathering.gather.Goals as goal

pub place_of-place-requires : goal.place_of-place-requires
place_of-place-requires g c =
    subst (λ l. 0 < count_by (λ r. r.block == c.loop-block.block) l) (sym c.as_slice.ensures.value)
    (has_row c.loop-block.rows.items c.args.rows.items c.loop-block.block c.loop-block.invariant.0 (c.requires.each c.loop-block.block (search rules)))

pub unreachable-requires : goal.unreachable-requires
unreachable-requires g c =
    let r = c.index_mut.result.now in
    let slice = c.as_slice.ensures.value in
    let has = here_answered (g.J.Job.answer c.args._job.now) c.loop-block.rows.items c.place_of-place.result c.loop-block.block c.loop-block.invariant.1
    (subst (λ l. c.place_of-place.result < length l) slice c.place_of-place.ensures.inside)
    (subst (λ l. HoldsAt (λ r. r.block ≡ c.loop-block.block) l c.place_of-place.result) slice c.place_of-place.ensures.block)
    r c.index_mut.ensures.value in
    not_none (g.J.Job.answer c.args._job.now) r has.0 (sym c.take.ensures.value ∙ c.in-None.is)

pub loop-block-preserved : goal.loop-block-preserved
loop-block-preserved g c =
    let r = c.index_mut.result.now in
    let slice = c.as_slice.ensures.value in
    let has = here_answered (g.J.Job.answer c.args._job.now) c.loop-block.rows.items c.place_of-place.result c.loop-block.block c.loop-block.invariant.1
    (subst (λ l. c.place_of-place.result < length l) slice c.place_of-place.ensures.inside)
    (subst (λ l. HoldsAt (λ r. r.block ≡ c.loop-block.block) l c.place_of-place.result) slice c.place_of-place.ensures.block)
    r c.index_mut.ensures.value in
    let answer = its_answer (g.J.Job.answer c.args._job.now) r c.in-Some.answer has.0 (sym c.take.ensures.value ∙ c.in-Some.is) in (
      taken_blocks c.loop-block.rows.items c.place_of-place.result r _ c.index_mut.ensures.value refl ∙ c.loop-block.invariant.0,
      taken_passed (g.J.Job.answer c.args._job.now) c.loop-block.rows.items c.place_of-place.result c.loop-block.block _ c.loop-block.invariant.1 has.1,
      subst (λ l. AllZip (g.J.Job.answer c.args._job.now) (range_with_len 0 (c.loop-block.block + 1)) l) (sym c.in_ok-push-in-Some.ensures.items)
          (answers_further (g.J.Job.answer c.args._job.now) c.loop-block.block c.loop-block.answers.items c.in-Some.answer c.loop-block.invariant.2
          (subst (λ k. g.J.Job.answer c.args._job.now k c.in-Some.answer) has.1 answer)),
    )
