use Rattle.std.proofs.Common.{ℕ, ◌+◌, ◌-◌, ◌*◌, slice_index, inr, ap, arith}
use Rattle.unit_duals.specs.Nearness.{IsNoShorterForth}
use Rattle.unit_duals.specs.Raised.{asked_forth, IsSparedForth}
use Rattle.unit_duals.proofs.SetRows.{row_raised}
use Rattle.unit_duals.proofs.turns.go_forth.Goals as goal

pub returns-then-base-lengths : goal.returns-then-base-lengths
returns-then-base-lengths c =
    let l = c.args.lengths.now.tables.now.legs in
    let first = c.args.lengths.now.first.now in
    let slack = c.args.slack.now in
    let t = c.args.t in
    let e = c.args.e in
    let leg = c.requires.trunk.each e (omega arith) in
    row_raised l.size t (t * c.size.result) c.near_forth.result.now (asked_forth l first slack t e)
    (λ j. slice_index slack j - (slice_index first t + slice_index c.args.trunk.now e)) (IsNoShorterForth l t e)
    (IsSparedForth l first c.args.lengths.now.reach.now t e) c.args.values.now c.raise_forth.new.values (ap (λ (n : ℕ). t * n) c.size.ensures.value)
    (λ j column. ap (λ (d : ℕ). slice_index slack j - (slice_index first t + d)) leg) (λ j far. inr far) c.near_forth.ensures c.raise_forth.ensures
