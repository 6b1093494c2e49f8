use Rattle.std.proofs.Common.{◌≡◌, ℕ, ◌+◌, ◌-◌, ◌≤◌, length, slice_index, ap, ◌∙◌, arith}
use Rattle.std.proofs.lemmas.List.Elements.{All-get_or}
use Rattle.unit_duals.specs.Leasts.{least_of}
use Rattle.unit_duals.proofs.LeastNumbers.{least_of_le_start}
use Rattle.hub_model.specs.CandidateLengths.{length_ceiling}
use Rattle.leg_duals.specs.CandidateLegs.{trunk_length}
use Rattle.cut_model.specs.ValueRows.{if_allowed}
use Rattle.value_cuts.specs.Ends.{most_end}
use Rattle.value_cuts.proofs.LeastLengths.{end_fits, one_or_ceiling, two_or_ceiling, least_start, least_kept, least_lowered, onward_where, beyond_where, least_is_price}
use Rattle.value_cuts.proofs.allowed.least_allowed_length.Goals as goal
use Rattle.value_cuts.proofs.allowed.least_allowed_length.Goals.{then-end-nearest, else-end-nearest}

pub loop-x-init : goal.loop-x-init
loop-x-init c =
    let p = c.args.tables.now in
    let way : ℕ × ℕ = (c.args.i, c.args.j) in
    let first = c.args.first.now in
    let q = length p.candidates in
    let singles : ℕ → ℕ = λ x. if_allowed p way x x (slice_index first x + slice_index c.args.delivery.now x) (length_ceiling p) in
    least_start (length_ceiling p) q c.least_single-least.result (one_or_ceiling p way first) singles (two_or_ceiling p way first c.args.last.now)
    (λ x within. ap (λ (d : ℕ). if_allowed p way x x (slice_index first x + d) (length_ceiling p)) (c.requires.delivery.each x within))
    (c.least_single-least.ensures ∙ ap (least_of (length_ceiling p) singles) c.requires.first)

pub overflow_add-end : goal.overflow_add-end
overflow_add-end c =
    let end = All-get_or (λ d. d ≤ most_end) c.args.first.now c.loop-x.x 0 c.loop-x-test.true c.requires.first_limit in
    let near = least_of_le_start c.ceiling.result (slice_index c.args.last.now) (length c.args.last.now) in
    end_fits (slice_index c.args.first.now c.loop-x.x + c.least_end-nearest.result)
    (omega (arith, end, near, c.least_end-nearest.ensures, c.ceiling.ensures.limit))

pub overflow_add-least : goal.overflow_add-least
overflow_add-least c =
    let p = c.args.tables.now in
    let end = slice_index c.args.first.now c.loop-x.x in
    let sums : ℕ → ℕ = λ y. if_allowed p (c.args.i, c.args.j) c.loop-x.x y (trunk_length p c.loop-x.x y + slice_index c.args.last.now y) (c.loop-x.least - end) in
    let low = least_of_le_start (c.loop-x.least - end) sums (length c.args.last.now) in
    end_fits (end + c.least_onward.result)
    (omega (arith, low, c.least_onward.ensures, c.if-end-nearest.true, c.loop-x.invariant.low, c.ceiling.ensures.value, c.ceiling.ensures.limit))

pub loop-x-preserved : goal.loop-x-preserved
loop-x-preserved c =
    let p = c.args.tables.now in
    let way : ℕ × ℕ = (c.args.i, c.args.j) in
    let q = length p.candidates in
    let first = c.args.first.now in
    let last = c.args.last.now in
    let x = c.loop-x.x in
    let end = slice_index first x in
    let alone = one_or_ceiling p way first in
    let by_two = two_or_ceiling p way first last in
    elim c.if-end-nearest.branch [
      | then-end-nearest w ↦
          let sums : ℕ → ℕ = λ y. if_allowed p way x y (trunk_length p x y + slice_index last y) (c.loop-x.least - end) in
          let rest : w.least_onward.result ≡ least_of (c.loop-x.least - end) sums q =
          w.least_onward.ensures ∙ ap (least_of (c.loop-x.least - end) sums) c.requires.last in
          let inside : end ≤ c.loop-x.least = omega (arith, w.if-end-nearest.true) in
          rw w.least-is (least_lowered (length_ceiling p) q x c.loop-x.least end w.least_onward.result alone sums by_two
          (omega (arith, c.loop-x-test.true, c.requires.first))
          (λ y within. onward_where p way x y (length_ceiling p) c.loop-x.least end (trunk_length p x y) (slice_index last y) c.loop-x.invariant.low inside)
          inside rest c.loop-x.invariant)
      | else-end-nearest w ↦
          let near : c.least_end-nearest.result ≡ least_of (length_ceiling p) (slice_index last) q =
          c.least_end-nearest.ensures ∙ ap (λ (a : ℕ). least_of a (slice_index last) (length last)) c.ceiling.ensures.value
          ∙ ap (least_of (length_ceiling p) (slice_index last)) c.requires.last in
          rw w.least-is (least_kept (length_ceiling p) q x c.loop-x.least end c.least_end-nearest.result alone (slice_index last) by_two
          (λ y within. beyond_where p way x y (length_ceiling p) end (trunk_length p x y) (slice_index last y)) near w.if-end-nearest.false c.loop-x.invariant)
    ]

pub returns : goal.returns
returns c = λ v first_ends last_ends.
    least_is_price c.args.tables.now (c.args.i, c.args.j) v c.args.first.now c.args.last.now c.loop-x.x c.loop-x.least
    c.ceiling.ensures.problem first_ends last_ends (omega (arith, c.loop-x-test.false, c.requires.first)) c.loop-x.invariant
