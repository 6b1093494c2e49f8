use Rattle.std.proofs.Common.{◌≡◌, ℕ, ◌+◌, ◌≤◌, min, length, slice_index, inl, inr, refl, sym, ◌∙◌, arith}
use Rattle.unit_duals.proofs.LeastNumbers.{least_of-none, least_of_le_start, least_step, least_all}
use Rattle.hub_model.specs.CandidateLengths.{length_ceiling}
use Rattle.cut_model.specs.ValueRows.{if_allowed}
use Rattle.value_cuts.proofs.LeastLengths.{least_by_allowed, least_by_none}
use Rattle.value_cuts.proofs.allowed.least_single.Goals as goal
use Rattle.value_cuts.proofs.allowed.least_single.Goals.{then-sum-least+then-may_go, else-sum-least, else-sum-least-via-then-sum-least+else-may_go, else-sum-least-via-else-sum-least}

pub loop-x-init : goal.loop-x-init
loop-x-init c =
    let p = c.args.tables.now in
    c.ceiling-least.ensures.value ∙ sym (least_of-none (length_ceiling p)
    (λ x. if_allowed p (c.args.i, c.args.j) x x (slice_index c.args.first.now x + slice_index c.args.delivery.now x) (length_ceiling p)))

pub loop-x-preserved : goal.loop-x-preserved
loop-x-preserved c =
    let p = c.args.tables.now in
    let way : ℕ × ℕ = (c.args.i, c.args.j) in
    let top = length_ceiling p in
    let least = c.loop-x.least in
    let x = c.loop-x.x in
    let sum : ℕ → ℕ = λ z. slice_index c.args.first.now z + slice_index c.args.delivery.now z in
    let f : ℕ → ℕ = λ z. if_allowed p way z z (sum z) top in
    let low : least ≤ top = omega (arith, least_of_le_start top f x, c.loop-x.invariant) in
    least_step top f x least (f x) c.if-sum-least.least c.loop-x.invariant refl
    (elim c.if-sum-least.branch [
      | then-sum-least+then-may_go w ↦
          least_by_allowed p way x x top least (sum x) c.if-sum-least.least
          (sym w.may_go.ensures ∙ w.if-may_go.true) w.if-sum-least.true w.least-is
      | else-sum-least w ↦ elim w.else-sum-least.branch [
        | else-sum-least-via-then-sum-least+else-may_go v ↦
            least_by_none p way x x top least (sum x) c.if-sum-least.least low (inr (sym v.may_go.ensures ∙ v.if-may_go.false)) w.least-is
        | else-sum-least-via-else-sum-least v ↦
            least_by_none p way x x top least (sum x) c.if-sum-least.least low (inl v.if-sum-least.false) w.least-is
      ]
    ])

pub returns : goal.returns
returns c =
    let p = c.args.tables.now in
    least_all (length_ceiling p)
    (λ x. if_allowed p (c.args.i, c.args.j) x x (slice_index c.args.first.now x + slice_index c.args.delivery.now x) (length_ceiling p))
    c.loop-x.x (length c.args.first.now) c.loop-x.least c.loop-x.invariant (omega arith)
