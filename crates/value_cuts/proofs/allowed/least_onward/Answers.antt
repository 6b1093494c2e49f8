use Rattle.std.proofs.Common.{◌≡◌, ℕ, ◌+◌, ◌≤◌, min, length, slice_index, inl, inr, refl, sym, ◌∙◌, arith}
use Rattle.unit_duals.proofs.LeastNumbers.{least_of-none, least_of_le_start, least_step, least_all}
use Rattle.leg_duals.specs.CandidateLegs.{trunk_length}
use Rattle.cut_model.specs.ValueRows.{if_allowed}
use Rattle.value_cuts.proofs.LeastLengths.{least_by_allowed, least_by_none}
use Rattle.value_cuts.proofs.allowed.least_onward.Goals as goal
use Rattle.value_cuts.proofs.allowed.least_onward.Goals.{then-sum-least+then-may_go, else-sum-least, else-sum-least-via-then-sum-least+else-may_go, else-sum-least-via-else-sum-least}

pub loop-y-init : goal.loop-y-init
loop-y-init c =
    let p = c.args.tables.now in
    sym (least_of-none c.args.most
    (λ y. if_allowed p (c.args.i, c.args.j) c.args.x y (trunk_length p c.args.x y + slice_index c.args.last.now y) c.args.most))

pub loop-y-preserved : goal.loop-y-preserved
loop-y-preserved c =
    let p = c.args.tables.now in
    let way : ℕ × ℕ = (c.args.i, c.args.j) in
    let most = c.args.most in
    let least = c.loop-y.least in
    let y = c.loop-y.y in
    let sum : ℕ → ℕ = λ z. trunk_length p c.args.x z + slice_index c.args.last.now z in
    let f : ℕ → ℕ = λ z. if_allowed p way c.args.x z (sum z) most in
    let low : least ≤ most = omega (arith, least_of_le_start most f y, c.loop-y.invariant) in
    let worked : slice_index c.trunk_legs-trunk.result.now y + slice_index c.args.last.now y ≡ sum y =
    omega (arith, c.trunk_legs-trunk.ensures.each y (omega (arith, c.loop-y-test.true, c.requires.last))) in
    least_step most f y least (f y) c.if-sum-least.least c.loop-y.invariant refl
    (elim c.if-sum-least.branch [
      | then-sum-least+then-may_go w ↦
          least_by_allowed p way c.args.x y most least (sum y) c.if-sum-least.least
          (sym w.may_go.ensures ∙ w.if-may_go.true) (omega (arith, w.if-sum-least.true, worked)) (w.least-is ∙ worked)
      | else-sum-least w ↦ elim w.else-sum-least.branch [
        | else-sum-least-via-then-sum-least+else-may_go v ↦
            least_by_none p way c.args.x y most least (sum y) c.if-sum-least.least low (inr (sym v.may_go.ensures ∙ v.if-may_go.false)) w.least-is
        | else-sum-least-via-else-sum-least v ↦
            least_by_none p way c.args.x y most least (sum y) c.if-sum-least.least low (inl (omega (arith, v.if-sum-least.false, worked))) w.least-is
      ]
    ])

pub returns : goal.returns
returns c =
    let p = c.args.tables.now in
    least_all c.args.most (λ y. if_allowed p (c.args.i, c.args.j) c.args.x y (trunk_length p c.args.x y + slice_index c.args.last.now y) c.args.most)
    c.loop-y.y (length c.args.last.now) c.loop-y.least c.loop-y.invariant (omega arith)
