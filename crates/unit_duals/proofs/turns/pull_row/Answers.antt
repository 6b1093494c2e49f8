use Rattle.std.proofs.Common.{◌≡◌, ℕ, ◌<◌, slice_index, subst, arith}
use Rattle.unit_duals.specs.Cells.{cell}
use Rattle.unit_duals.specs.Values.{held_origin, IsTurnAt}
use Rattle.unit_duals.proofs.RowTurns.{turn_start, turn_more, turn_end}
use Rattle.unit_duals.proofs.turns.pull_row.Goals as goal

pub loop-e-init : goal.loop-e-init
loop-e-init c =
    let s = c.args.lengths.now in
    turn_start s.tables.now.legs s.prices.now s.first.now s.reach.now c.args.slack.now c.args.rest.now c.args.t
    c.args.values.now c.set_row.new.values c.set_row.ensures c.requires.noted c.requires.before

pub loop-e-preserved : goal.loop-e-preserved
loop-e-preserved c =
    let s = c.args.lengths.now in
    let slack = c.args.slack.now in
    let rest = c.args.rest.now in
    let e = c.loop-e.e in
    turn_more s.tables.now.legs s.prices.now s.first.now s.reach.now slack rest c.args.t e c.row.result.now c.row-in-loop-e.result.now
    c.loop-e.values c.go_forth.new.values c.go_home.new.values c.loop-e-test.true
    (subst (λ (n : ℕ). (j : ℕ) → j < n → slice_index c.row.result.now j ≡ cell n slack e j) c.size-size.ensures.value c.row.ensures.each)
    (subst (λ (n : ℕ). (j : ℕ) → j < n → slice_index c.row-in-loop-e.result.now j ≡ cell n rest e j) c.size-size.ensures.value c.row-in-loop-e.ensures.each)
    c.go_forth.ensures c.go_home.ensures c.loop-e.invariant

pub returns-clause-done : goal.returns-clause-done
returns-clause-done c =
    let s = c.args.lengths.now in
    let same : c.loop-e.e ≡ c.args.t = omega arith in
    turn_end (held_origin s) s.tables.now.legs.size c.args.t c.loop-e.values c.args.slack.now c.args.rest.now
    (subst (λ (e : ℕ). IsTurnAt (held_origin s) s.tables.now.legs.size c.args.t e c.loop-e.values c.args.slack.now c.args.rest.now) same c.loop-e.invariant)
