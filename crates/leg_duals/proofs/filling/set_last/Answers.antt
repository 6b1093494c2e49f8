use Rattle.std.proofs.Common.{◌≡◌, ℕ, ◌+◌, ◌*◌, ◌≤◌, length, ap, arith}
use Rattle.hub_spec.specs.Problem.{distance}
use Rattle.unit_duals.specs.Limits.{most_leg}
use Rattle.unit_duals.proofs.TableCells.{row_within, cell_within}
use Rattle.leg_duals.specs.StopLegs.{stop_node}
use Rattle.unit_duals.proofs.SetStretches.{table_row}
use Rattle.leg_duals.proofs.LegRows.{table_limit}
use Rattle.leg_duals.proofs.filling.set_last.Goals as goal

pub set_last_row-requires-clause-row : goal.set_last_row-requires-clause-row
set_last_row-requires-clause-row c =
    let stops = length c.args.order.now + length c.args.hubs.now in
    omega (arith, row_within c.loop-k.k c.args.size stops c.loop-k-test.true, c.requires.long, c.loop-k.auto.last)

pub loop-k-preserved : goal.loop-k-preserved
loop-k-preserved c =
    let p = c.args.instance.now in
    let node = stop_node c.args.hubs.now c.args.order.now in
    let n = c.args.size in
    let k = c.loop-k.k in
    let value : ℕ → ℕ = λ j. p.deliver * distance p c.node_of.result (c.args.start + j) in
    record {
      legs = table_row n k ((k + 1) * n) (λ k j v. v ≡ p.deliver * distance p (node k) (c.args.start + j)) value c.loop-k.last c.set_last_row.new.table
          (omega arith) (λ j below. ap (λ (s : ℕ). p.deliver * distance p s (c.args.start + j)) c.node_of.ensures)
          c.set_last_row.ensures.row c.loop-k.invariant.legs;
      limit = table_row n k ((k + 1) * n) (λ k j v. v ≤ most_leg) value c.loop-k.last c.set_last_row.new.table (omega arith)
          c.set_last_row.ensures.limit c.set_last_row.ensures.row c.loop-k.invariant.limit;
    }

pub returns-clause-limit : goal.returns-clause-limit
returns-clause-limit c =
    let n = c.args.size in
    let stops = length c.args.order.now + length c.args.hubs.now in
    let long : length c.loop-k.last ≡ stops * n = omega (arith, c.requires.long, c.loop-k.auto.last) in
    let all : c.loop-k.k ≡ stops = omega arith in
    table_limit n stops most_leg c.loop-k.last long
    (λ k j stop column. c.loop-k.invariant.limit.each k j column (rw all (cell_within k j n stops stop column)))
