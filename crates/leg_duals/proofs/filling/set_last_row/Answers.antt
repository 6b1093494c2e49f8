use Rattle.std.proofs.Common.{ℕ, ◌+◌, ◌*◌, slice_index, ap₂, arith}
use Rattle.hub_spec.specs.Problem.{distance}
use Rattle.unit_duals.proofs.SetRows.{row_set_more}
use Rattle.leg_duals.proofs.LegLimits.{leg_limit}
use Rattle.leg_duals.proofs.filling.set_last_row.Goals as goal

pub loop-j-preserved : goal.loop-j-preserved
loop-j-preserved c =
    let p = c.args.instance.now in
    let to = c.args.start + c.loop-j.j in
    row_set_more c.args.size c.args.t c.loop-j.j (c.deliver-factor.result * slice_index c.distances_from-distances.result.now to)
    (λ j. p.deliver * distance p c.args.from (c.args.start + j)) c.args.table.now c.loop-j.table c.loop-j-test.true
    (omega (arith, c.loop-j-test.true, c.requires.row, c.loop-j.auto.table))
    (ap₂ (λ (a b : ℕ). a * b) c.deliver-factor.ensures.value
    (c.distances_from-distances.ensures.each to (omega (arith, c.requires.destinations, c.loop-j-test.true))))
    c.loop-j.invariant

pub returns-clause-limit : goal.returns-clause-limit
returns-clause-limit c =
    let p = c.args.instance.now in
    λ j below. leg_limit p.deliver (distance p c.args.from (c.args.start + j)) (omega (arith, c.deliver-factor.ensures.value, c.deliver-factor.ensures.limit))
    (c.distances_from-distances.ensures.limit (c.args.start + j) (omega (arith, c.requires.destinations, below)))
