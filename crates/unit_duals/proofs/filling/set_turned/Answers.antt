use Rattle.std.proofs.Common.{◌≡◌, ◌+◌, ◌*◌, slice_index, arith}
use Rattle.std.proofs.lemmas.Nat.{rows}
use Rattle.unit_duals.specs.Lengths.{trunk_leg}
use Rattle.unit_duals.proofs.TableCells.{table_more}
use Rattle.unit_duals.proofs.filling.set_turned.Goals as goal

pub loop-m-preserved : goal.loop-m-preserved
loop-m-preserved c =
    table_more c.stops-stops.result (λ k m v. v ≡ trunk_leg c.args.legs.now m k) c.loop-m.turned c.loop-k.k c.loop-m.m
    (slice_index c.trunk_row.result.now c.loop-k.k) (c.loop-k.k * c.stops-stops.result + (c.loop-m.m + 1)) c.loop-m-test.true
    (grind (arith, rows)) (c.trunk_row.ensures.each c.loop-k.k (omega arith)) (omega arith) c.loop-m.invariant
