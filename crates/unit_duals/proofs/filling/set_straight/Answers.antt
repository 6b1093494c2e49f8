use Rattle.std.proofs.Common.{ℕ, ◌+◌, ◌*◌, length, ap, arith}
use Rattle.unit_duals.specs.Lengths.{stops, last_leg}
use Rattle.unit_duals.proofs.LegRows.{whole_leg_row, last_leg_limit}
use Rattle.unit_duals.proofs.TableCells.{cell_within}
use Rattle.unit_duals.proofs.filling.set_straight.Goals as goal

pub bounds-last-k : goal.bounds-last-k
bounds-last-k c =
    let l = c.args.legs.now in
    let long = ap length c.last-last.ensures.value in
    let width = ap (λ (n : ℕ). c.loop-k.k * n + c.args.j) c.size-size.ensures.value in
    omega (
      arith,
      cell_within c.loop-k.k c.args.j l.size (stops l) (omega (arith, c.requires.long, c.loop-k.auto.straight)) c.requires.destination,
      c.last-last.ensures.legs.last_long,
      long,
      width,
    )

pub returns : goal.returns
returns c =
    let l = c.args.legs.now in
    whole_leg_row (stops l) (λ k. last_leg l k c.args.j) c.loop-k.straight (omega (arith, c.requires.long, c.loop-k.auto.straight))
    (λ k below. c.loop-k.invariant k (omega (arith, below, c.requires.long, c.loop-k.auto.straight)))
    (λ k below. last_leg_limit l k c.args.j c.size-size.ensures.legs below c.requires.destination)
