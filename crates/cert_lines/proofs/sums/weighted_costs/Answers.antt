use Rattle.std.proofs.Common.{ℕ, ◌+◌, ◌*◌, ap, ◌∙◌, arith}
use Rattle.std.proofs.lemmas.Nat.{mul-le}
use Rattle.hub_spec.specs.Limits.{most_denominator, most_fixed_cost}
use Rattle.hub_spec.specs.Problem.{fixed_cost}
use Rattle.cert_lines.proofs.Marking.{sum_marked, sum_unmarked}
use Rattle.cert_lines.proofs.sums.weighted_costs.Goals as goal
use Rattle.cert_lines.proofs.sums.weighted_costs.Goals.{then-marks-k, else-marks-k}

pub loop-k-preserved : goal.loop-k-preserved
loop-k-preserved c =
    let marks = c.args.marks.now in
    let i = c.loop-k.k in
    let f : ℕ → ℕ = λ k. c.args.denom * fixed_cost c.args.instance.now k in
    elim c.if-marks-k.branch [
      | then-marks-k w ↦
          let low = mul-le c.args.denom w.fixed_cost.result most_denominator most_fixed_cost c.requires.denom w.fixed_cost.ensures.limit in
          rw w.sum-is (record {
            value = ap (λ (n : ℕ). c.loop-k.sum + c.args.denom * n) w.fixed_cost.ensures.value
                ∙ sum_marked f marks i c.loop-k.sum (omega arith) w.if-marks-k.true c.loop-k.invariant.value;
            limit = omega (arith, c.loop-k.invariant.limit, low);
          })
      | else-marks-k w ↦ rw w.sum-is (record {
        value = sum_unmarked f marks i c.loop-k.sum (omega arith) w.if-marks-k.false c.loop-k.invariant.value;
        limit = omega (arith, c.loop-k.invariant.limit);
      })
    ]
