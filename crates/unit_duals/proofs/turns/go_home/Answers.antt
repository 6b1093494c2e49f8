use Rattle.std.proofs.Common.{ℕ, ◌+◌, ◌-◌, ◌*◌, slice_index, inr, ap, arith}
use Rattle.unit_duals.specs.Nearness.{IsNoShorterHome}
use Rattle.unit_duals.specs.Raised.{asked_home, IsSparedHome}
use Rattle.unit_duals.proofs.SetRows.{row_raised}
use Rattle.unit_duals.proofs.turns.go_home.Goals as goal

pub returns-then-base-lengths : goal.returns-then-base-lengths
returns-then-base-lengths c =
    let l = c.args.lengths.now.tables.now.legs in
    let first = c.args.lengths.now.first.now in
    let rest = c.args.rest.now in
    let t = c.args.t in
    let e = c.args.e in
    let leg = c.requires.turned.each e (omega arith) in
    row_raised l.size t (t * c.size.result) c.near_home-near.result.now (asked_home l first rest t e)
    (λ j. slice_index rest j - (slice_index first e + slice_index c.args.turned.now e + slice_index c.last_row.result.now j))
    (IsNoShorterHome l t e) (IsSparedHome l first c.args.lengths.now.reach.now t e) c.args.values.now c.raise_home.new.values
    (ap (λ (n : ℕ). t * n) c.size.ensures.value)
    (λ j column. (let on = c.last_row.ensures.each j column in omega (arith, leg, on))) (λ j far. inr far) c.near_home-near.ensures c.raise_home.ensures
