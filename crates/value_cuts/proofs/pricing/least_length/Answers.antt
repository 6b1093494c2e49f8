use Rattle.std.proofs.Common.{◌≡◌, ℕ, ◌+◌, ◌-◌, ◌≤◌, length, slice_index, inl, inr, ap, ◌∙◌, arith}
use Rattle.std.proofs.lemmas.List.Elements.{All-get_or}
use Rattle.unit_duals.specs.Leasts.{least_of}
use Rattle.unit_duals.proofs.LeastNumbers.{least_of_le_start}
use Rattle.hub_model.specs.CandidateLengths.{length_ceiling}
use Rattle.leg_duals.specs.CandidateLegs.{trunk_length, delivery_length}
use Rattle.value_cuts.specs.Ends.{most_end}
use Rattle.value_cuts.proofs.LeastLengths.{end_fits, least_start, least_kept, least_lowered, least_of_any, least_is_price}
use Rattle.value_cuts.proofs.pricing.least_length.Goals as goal
use Rattle.value_cuts.proofs.pricing.least_length.Goals.{then-end-nearest, else-end-nearest}

pub loop-x-init : goal.loop-x-init
loop-x-init c =
    let p = c.args.tables.now in
    let first = c.args.first.now in
    let q = length p.candidates in
    let sums : ℕ → ℕ = λ x. slice_index first x + slice_index c.args.delivery.now x in
    least_start (length_ceiling p) q c.least_sum-least.result (λ x. slice_index first x + delivery_length p c.args.j x) sums
    (λ x y. slice_index first x + trunk_length p x y + slice_index c.args.last.now y)
    (λ x within. ap (λ (d : ℕ). slice_index first x + d) (c.requires.delivery.each x within))
    (c.least_sum-least.ensures ∙ ap (λ (a : ℕ). least_of a sums (length first)) c.ceiling-2.ensures.value
    ∙ ap (least_of (length_ceiling p) sums) c.requires.first)

pub overflow_add-end : goal.overflow_add-end
overflow_add-end c =
    let end = All-get_or (λ d. d ≤ most_end) c.args.first.now c.loop-x.x 0 c.loop-x-test.true c.requires.first_limit in
    let near = least_of_le_start c.ceiling.result (slice_index c.args.last.now) (length c.args.last.now) in
    end_fits (slice_index c.args.first.now c.loop-x.x + c.least_end-nearest.result)
    (omega (arith, end, near, c.least_end-nearest.ensures, c.ceiling.ensures.limit))

pub overflow_add-least : goal.overflow_add-least
overflow_add-least c =
    let end = slice_index c.args.first.now c.loop-x.x in
    let sums : ℕ → ℕ = λ y. slice_index c.trunk_legs.result.now y + slice_index c.args.last.now y in
    let low = least_of_le_start (c.loop-x.least - end) sums (length c.trunk_legs.result.now) in
    end_fits (end + c.least_sum.result)
    (omega (arith, low, c.least_sum.ensures, c.if-end-nearest.true, c.loop-x.invariant.low, c.ceiling.ensures.value, c.ceiling.ensures.limit))

pub loop-x-preserved : goal.loop-x-preserved
loop-x-preserved c =
    let p = c.args.tables.now in
    let q = length p.candidates in
    let first = c.args.first.now in
    let last = c.args.last.now in
    let x = c.loop-x.x in
    let end = slice_index first x in
    let alone : ℕ → ℕ = λ x. slice_index first x + delivery_length p c.args.j x in
    let by_two : ℕ → ℕ → ℕ = λ x y. slice_index first x + trunk_length p x y + slice_index last y in
    elim c.if-end-nearest.branch [
      | then-end-nearest w ↦
          let sums : ℕ → ℕ = λ y. slice_index w.trunk_legs.result.now y + slice_index last y in
          let rest : w.least_sum.result ≡ least_of (c.loop-x.least - end) sums q =
          w.least_sum.ensures ∙ ap (least_of (c.loop-x.least - end) sums) w.trunk_legs.ensures.long in
          rw w.least-is (least_lowered (length_ceiling p) q x c.loop-x.least end w.least_sum.result alone sums by_two
          (omega (arith, c.loop-x-test.true, c.requires.first)) (λ y within. record {
            low = inr (omega (arith, w.trunk_legs.ensures.each y within));
            high = λ a top far. omega (arith, far, w.trunk_legs.ensures.each y within);
          })
          (omega (arith, w.if-end-nearest.true)) rest c.loop-x.invariant)
      | else-end-nearest w ↦
          let near : c.least_end-nearest.result ≡ least_of (length_ceiling p) (slice_index last) q =
          c.least_end-nearest.ensures ∙ ap (λ (a : ℕ). least_of a (slice_index last) (length last)) c.ceiling.ensures.value
          ∙ ap (least_of (length_ceiling p) (slice_index last)) c.requires.last in
          rw w.least-is (least_kept (length_ceiling p) q x c.loop-x.least end c.least_end-nearest.result alone (slice_index last)
          by_two (λ y within. inl (omega arith)) near w.if-end-nearest.false c.loop-x.invariant)
    ]

pub returns : goal.returns
returns c = λ v first_ends last_ends.
    let p = c.args.tables.now in
    let so_far = least_of_any p (c.args.i, c.args.j) c.args.first.now c.args.last.now (length p.candidates) c.loop-x.x c.loop-x.least
    c.requires.unlimited c.loop-x.invariant in
    least_is_price p (c.args.i, c.args.j) v c.args.first.now c.args.last.now c.loop-x.x c.loop-x.least
    c.ceiling.ensures.problem first_ends last_ends (omega (arith, c.loop-x-test.false, c.requires.first)) so_far
