use Rattle.std.proofs.Common.{◌≡◌, ℕ, ◌+◌, ◌-◌, ◌*◌, ◌≤◌, slice_index, ap, ◌∙◌, arith}
use Rattle.std.proofs.lemmas.List.Elements.{All-get_or}
use Rattle.hub_spec.specs.Limits.{most_cost, most_denominator}
use Rattle.hub_spec.specs.Problem.{fixed_cost}
use Rattle.cert_lines.proofs.Marking.{sum_marked, sum_unmarked}
use Rattle.cert_lines.proofs.sums.losses.Goals as goal
use Rattle.cert_lines.proofs.sums.losses.Goals.{then-marks-at, else-marks-at}

pub loop-k-preserved : goal.loop-k-preserved
loop-k-preserved c =
    let loads = c.args.loads.now in
    let marks = c.args.marks.now in
    let i = c.loop-k.k in
    let f : ℕ → ℕ = λ k. slice_index loads k - c.args.denom * fixed_cost c.args.instance.now k in
    elim c.if-marks-at.branch [
      | then-marks-at w ↦
          let low = All-get_or (λ (load : ℕ). load ≤ most_denominator * most_cost) loads i 0 (omega arith) c.requires.loads in
          let is : w.saturating_sub-sum.result ≡ f i =
          w.saturating_sub-sum.ensures ∙ ap (λ (n : ℕ). slice_index loads i - c.args.denom * n) w.fixed_cost.ensures.value in
          rw w.sum-is (record {
            value = ap (λ (n : ℕ). c.loop-k.sum + n) is
                ∙ sum_marked f marks i c.loop-k.sum (omega arith) w.if-marks-at.true c.loop-k.invariant.value;
            limit = omega (arith, c.loop-k.invariant.limit, low, w.saturating_sub-sum.ensures);
          })
      | else-marks-at w ↦ rw w.sum-is (record {
        value = sum_unmarked f marks i c.loop-k.sum (omega arith) w.if-marks-at.false c.loop-k.invariant.value;
        limit = omega (arith, c.loop-k.invariant.limit);
      })
    ]
