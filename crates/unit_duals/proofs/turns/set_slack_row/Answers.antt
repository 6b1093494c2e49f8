use Rattle.std.proofs.Common.{◌≡◌, ℕ, ◌+◌, ◌-◌, ◌*◌, ◌<◌, ◌≤◌, set, slice_index, sym, ap, subst, arith}
use Rattle.std.proofs.lemmas.List.Elements.{All-get_or}
use Rattle.unit_duals.specs.Cells.{cell}
use Rattle.unit_duals.specs.Limits.{most_length}
use Rattle.unit_duals.specs.Lengths.{last_leg}
use Rattle.unit_duals.specs.Raised.{IsRowSet}
use Rattle.unit_duals.proofs.SetRows.{row_set_more}
use Rattle.unit_duals.proofs.TableCells.{cell_within}
use Rattle.unit_duals.proofs.turns.set_slack_row.Goals as goal

pub excess-above-requires-clause-second : goal.excess-above-requires-clause-second
excess-above-requires-clause-second c =
    let l = c.args.lengths.now.tables.now.legs in
    let j = c.loop-j.j in
    let column : j < l.size = omega arith in
    let here = ap (λ (n : ℕ). slice_index c.args.values.now (c.args.t * n + j)) c.size-size.ensures.value in
    let within = c.requires.within j column in
    let limit = All-get_or (λ d. d ≤ most_length) c.args.lengths.now.prices.now j 0 (omega (arith, column, c.requires.lengths.prices_long)) c.requires.lengths.price_limit in
    omega (arith, here, within, limit)

pub loop-j-preserved : goal.loop-j-preserved
loop-j-preserved c =
    let l = c.args.lengths.now.tables.now.legs in
    let t = c.args.t in
    let j = c.loop-j.j in
    let column : j < l.size = omega arith in
    let prices = c.args.lengths.now.prices.now in
    let values = c.args.values.now in
    let last = c.last_row-last.ensures.each j column in
    let here = ap (λ (n : ℕ). slice_index values (t * n + j)) c.size-size.ensures.value in
    let within = cell_within t j l.size l.count c.requires.place column in
    let above : c.excess-above.result ≡ slice_index prices j - cell l.size values t j = omega (arith, c.excess-above.ensures, here) in
    record {
      slack = subst (λ (n : ℕ). IsRowSet l.size t (j + 1) (λ i. slice_index prices i - cell l.size values t i - last_leg l t i) c.args.slack.now
          (set c.loop-j.slack (t * n + j) c.excess.result)) (sym c.size-size.ensures.value)
          (row_set_more l.size t j c.excess.result (λ i. slice_index prices i - cell l.size values t i - last_leg l t i) c.args.slack.now
          c.loop-j.slack column (omega (arith, within, c.requires.lists.slack_long)) (omega (arith, c.excess.ensures, above, last)) c.loop-j.invariant.slack);
      rest = subst (λ (n : ℕ). IsRowSet l.size t (j + 1) (λ i. slice_index prices i - cell l.size values t i) c.args.rest.now
          (set c.loop-j.rest (t * n + j) c.excess-above.result)) (sym c.size-size.ensures.value)
          (row_set_more l.size t j c.excess-above.result (λ i. slice_index prices i - cell l.size values t i) c.args.rest.now
          c.loop-j.rest column (omega (arith, within, c.requires.lists.rest_long)) above c.loop-j.invariant.rest);
    }
