use Rattle.std.proofs.Common.{◌≡◌, ℕ, ◌+◌, ◌*◌, ◌≤◌, length, ap₂, arith}
use Rattle.hub_spec.specs.Problem.{distance}
use Rattle.unit_duals.specs.Limits.{most_leg}
use Rattle.unit_duals.proofs.TableCells.{row_within, cell_within}
use Rattle.leg_duals.specs.StopLegs.{stop_node}
use Rattle.unit_duals.proofs.SetStretches.{table_row}
use Rattle.leg_duals.proofs.LegRows.{table_limit}
use Rattle.leg_duals.proofs.filling.set_trunk.Goals as goal

pub set_row-requires-clause-row : goal.set_row-requires-clause-row
set_row-requires-clause-row c =
    let n = length c.args.order.now + length c.args.hubs.now in
    omega (arith, row_within c.loop-k.k n n c.loop-k-test.true, c.requires.long, c.loop-k.auto.trunk)

pub loop-k-preserved : goal.loop-k-preserved
loop-k-preserved c =
    let p = c.args.instance.now in
    let node = stop_node c.args.hubs.now c.args.order.now in
    let n = length c.args.order.now + length c.args.hubs.now in
    let k = c.loop-k.k in
    let value : ℕ → ℕ = λ m. c.trunk-factor.result * distance p c.node_of-from.result (node m) in
    record {
      legs = table_row n k ((k + 1) * n) (λ k m v. v ≡ p.trunk * distance p (node k) (node m)) value c.loop-k.trunk c.set_row.new.table (omega arith)
          (λ m below. ap₂ (λ (f s : ℕ). f * distance p s (node m)) c.trunk-factor.ensures.value c.node_of-from.ensures)
          c.set_row.ensures.row c.loop-k.invariant.legs;
      limit = table_row n k ((k + 1) * n) (λ k m v. v ≤ most_leg) value c.loop-k.trunk c.set_row.new.table (omega arith)
          c.set_row.ensures.limit c.set_row.ensures.row c.loop-k.invariant.limit;
    }

pub returns-clause-limit : goal.returns-clause-limit
returns-clause-limit c =
    let n = length c.args.order.now + length c.args.hubs.now in
    let long : length c.loop-k.trunk ≡ n * n = omega (arith, c.requires.long, c.loop-k.auto.trunk) in
    let all : c.loop-k.k ≡ n = omega arith in
    table_limit n n most_leg c.loop-k.trunk long
    (λ k m stop other. c.loop-k.invariant.limit.each k m other (rw all (cell_within k m n n stop other)))
