use Rattle.std.proofs.Common.{◌+◌, ◌-◌, ◌*◌, ◌≤◌, length, slice_index, arith}
use Rattle.std.proofs.lemmas.List.Elements.{All-get_or, All-set}
use Rattle.unit_duals.proofs.SetRows.{row_set_more}
use Rattle.leg_duals.specs.Ways.{no_way}
use Rattle.leg_duals.proofs.turns.set_row.Goals as goal

pub loop-j-preserved : goal.loop-j-preserved
loop-j-preserved c =
    let prices = c.args.prices.now in
    let least = c.args.least.now in
    let j = c.loop-j.j in
    let price = All-get_or (λ d. d ≤ no_way) prices j 0 (omega arith) c.requires.limit in
    record {
      row = row_set_more (length prices) c.args.t j (slice_index prices j - slice_index least j) (λ x. slice_index prices x - slice_index least x)
          c.args.values.now c.loop-j.values (omega arith) (omega (arith, c.requires.row, c.loop-j.auto.values)) (omega arith) c.loop-j.invariant.row;
      limit = All-set (λ d. d ≤ no_way) c.loop-j.values (c.args.t * length prices + j) (slice_index prices j - slice_index least j)
          (omega (arith, price)) c.loop-j.invariant.limit;
    }
