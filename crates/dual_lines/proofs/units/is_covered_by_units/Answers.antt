use Rattle.std.proofs.Common.{arith}
use Rattle.hub_spec.proofs.AllLoops.{all_ended, all_goes_on}
use Rattle.dual_lines.specs.Covers.{IsCoveredFirst}
use Rattle.dual_lines.proofs.units.is_covered_by_units.Goals as goal

pub loop-x-preserved : goal.loop-x-preserved
loop-x-preserved c =
    let p = c.args.legs.now in
    all_goes_on (IsCoveredFirst p c.args.line.part (c.args.line.from, c.args.line.to) c.args.line.price c.args.amounts.now) p.candidates c.loop-x.x 0
    c.is_place_covered.result (omega arith) c.is_place_covered.ensures c.if-not-is_place_covered.false c.loop-x.invariant

pub returns : goal.returns
returns c =
    let p = c.args.legs.now in
    all_ended (IsCoveredFirst p c.args.line.part (c.args.line.from, c.args.line.to) c.args.line.price c.args.amounts.now) p.candidates c.loop-x.x (omega arith)
    c.loop-x.invariant
