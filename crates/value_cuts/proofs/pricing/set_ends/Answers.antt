use Rattle.std.proofs.Common.{ℕ, ◌+◌, ◌<◌, ◌≤◌, length, slice_index, ap, arith}
use Rattle.std.proofs.lemmas.List.Elements.{All-get_or}
use Rattle.unit_duals.specs.Limits.{most_leg}
use Rattle.cut_model.specs.ValueRows.{node_value}
use Rattle.leg_duals.proofs.CandidateTables.{ceiling_limit}
use Rattle.cut_model.proofs.NodeValues.{worked_value, node_value_within}
use Rattle.value_cuts.proofs.Ends.{ends_none, ends_more, ends_all}
use Rattle.value_cuts.proofs.pricing.set_ends.Goals as goal

pub loop-x-init : goal.loop-x-init
loop-x-init c =
    ends_none c.args.tables.now (slice_index c.args.legs.now) (node_value c.args.tables.now c.args.unit c.args.row.now) c.args.ends.now

pub loop-x-preserved : goal.loop-x-preserved
loop-x-preserved c =
    let p = c.args.tables.now in
    let row = c.args.row.now in
    let x = c.loop-x.x in
    let within : x < length p.candidates = omega (arith, c.loop-x-test.true, c.requires.legs) in
    let value = worked_value p c.args.unit row x c.ceiling-ceiling.result c.value_of.result c.ceiling-ceiling.ensures.problem c.requires.row
    within c.ceiling-ceiling.ensures.value c.value_of.ensures in
    ends_more p (slice_index c.args.legs.now) (node_value p c.args.unit row) x (slice_index c.args.legs.now x + c.value_of.result) c.loop-x.ends
    (omega (arith, within, c.loop-x.auto.ends, c.requires.ends)) (ap (λ (v : ℕ). slice_index c.args.legs.now x + v) value) c.loop-x.invariant

pub returns : goal.returns
returns c =
    let p = c.args.tables.now in
    ends_all p (slice_index c.args.legs.now) (node_value p c.args.unit c.args.row.now) c.loop-x.x c.loop-x.ends
    (omega (arith, c.loop-x.auto.ends, c.requires.ends)) (omega (arith, c.loop-x-test.false, c.requires.legs))
    (λ y below. All-get_or (λ d. d ≤ most_leg) c.args.legs.now y 0 (omega (arith, below, c.requires.legs)) c.requires.limit)
    (node_value_within p c.args.unit c.args.row.now) (ceiling_limit p c.ceiling-ceiling.ensures.problem) c.loop-x.invariant
