use Rattle.std.proofs.Common.{refl}
use Rattle.dual_lines.proofs.UnitCovers.{covered_by_unit}
use Rattle.dual_lines.proofs.units.is_place_covered.Goals as goal

pub returns-then-is_covered_in_units : goal.returns-then-is_covered_in_units
returns-then-is_covered_in_units c = (
  λ _. covered_by_unit c.args.legs.now c.args.line.part (c.args.line.from, c.args.line.to) c.args.line.price c.args.tried.now.price c.args.amounts.now c.args.tried.now.units.now
      c.args.x c.requires.price c.requires.units c.requires.place (c.is_covered_in_units.ensures c.if-is_covered_in_units.true),
  λ _. refl,
)
