use Rattle.std.proofs.Common.{ℕ, ◌*◌, ◌≤◌, slice_index, arith}
use Rattle.std.proofs.lemmas.List.Elements.{All-get_or}
use Rattle.hub_spec.specs.Limits.{most_cost, most_denominator}
use Rattle.cert_lines.proofs.Marking.{sum_marked, sum_unmarked}
use Rattle.cert_lines.proofs.sums.loads_of.Goals as goal
use Rattle.cert_lines.proofs.sums.loads_of.Goals.{then-marks-at, else-marks-at}

pub loop-k-preserved : goal.loop-k-preserved
loop-k-preserved c =
    let loads = c.args.loads.now in
    let marks = c.args.marks.now in
    let i = c.loop-k.k in
    elim c.if-marks-at.branch [
      | then-marks-at w ↦
          let low = All-get_or (λ (load : ℕ). load ≤ most_denominator * most_cost) loads i 0 (omega arith) c.requires.loads in
          rw w.sum-is (record {
            value = sum_marked (slice_index loads) marks i c.loop-k.sum (omega arith) w.if-marks-at.true c.loop-k.invariant.value;
            limit = omega (arith, c.loop-k.invariant.limit, low);
          })
      | else-marks-at w ↦ rw w.sum-is (record {
        value = sum_unmarked (slice_index loads) marks i c.loop-k.sum (omega arith) w.if-marks-at.false c.loop-k.invariant.value;
        limit = omega (arith, c.loop-k.invariant.limit);
      })
    ]
