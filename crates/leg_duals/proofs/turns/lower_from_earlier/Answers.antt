use Rattle.std.proofs.Common.{◌≡◌, ℕ, length, slice_index, subst, arith}
use Rattle.unit_duals.specs.Cells.{cell}
use Rattle.leg_duals.specs.Ways.{IsWayBeside}
use Rattle.leg_duals.specs.Lowered.{AreLowered, IsSpared}
use Rattle.leg_duals.proofs.LoweredSets.{lowered_more}
use Rattle.leg_duals.proofs.BesideRows.{beside_row}
use Rattle.leg_duals.proofs.turns.lower_from_earlier.Goals as goal

pub loop-e-preserved : goal.loop-e-preserved
loop-e-preserved c =
    let w = c.args.ways.now in
    let values = c.args.values.now in
    let many : length c.loop-e.least ≡ w.size = omega (arith, c.loop-e.auto.least, c.requires.long) in
    record {
      lowered = lowered_more w.size c.loop-e.e (λ e. IsSpared w c.args.reaches.now e c.args.t)
          (λ e. IsWayBeside w (cell w.size values e) e c.args.t) (slice_index c.args.least.now) c.loop-e.least c.lower_beside.new.items
          c.loop-e.invariant.lowered
          (beside_row w (IsSpared w c.args.reaches.now c.loop-e.e c.args.t) values c.row-beside.result.now c.loop-e.e c.loop-e.e c.args.t
          (length c.loop-e.least) c.loop-e.least c.lower_beside.new.items many c.row-beside.ensures.each c.lower_beside.ensures.lowered);
      limit = c.lower_beside.ensures.limit;
    }

pub returns-clause-lowered : goal.returns-clause-lowered
returns-clause-lowered c =
    let w = c.args.ways.now in
    let all : c.loop-e.e ≡ c.args.t = omega arith in
    subst (λ (n : ℕ). AreLowered w.size n (λ e. IsSpared w c.args.reaches.now e c.args.t)
    (λ e. IsWayBeside w (cell w.size c.args.values.now e) e c.args.t) (slice_index c.args.least.now) (slice_index c.loop-e.least)) all
    c.loop-e.invariant.lowered
