use Rattle.std.proofs.Common.{◌+◌, ◌≤◌, slice_index, arith}
use Rattle.dual_lines.proofs.units.is_covered_in_units.Goals as goal

pub returns-else-first-least_end : goal.returns-else-first-least_end
returns-else-first-least_end c = λ yes.
    let x = c.args.x in
    let leg = c.collection_legs.ensures.each x c.requires.place in
    record {
      alone = omega (arith, leg, c.delivery_legs.ensures.each x c.requires.place, c.if-first-delivery_legs.false);
      by_two = λ y below. omega (
        arith,
        leg,
        c.trunk_legs.ensures.each y below,
        c.requires.ends.each y below,
        c.are_beyond.ensures yes y (omega (arith, below, c.trunk_legs.ensures.long)),
      );
    }
