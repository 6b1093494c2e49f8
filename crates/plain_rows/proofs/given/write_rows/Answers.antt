use Rattle.std.proofs.Common.{◌+◌, ◌*◌, ◌≤◌, ◌∙◌, length, arith}
use Rattle.frac_rows.proofs.WholeRows.{piece_within}
use Rattle.plain_rows.proofs.GivenRows.{numbers_of, given_more}
use Rattle.plain_rows.proofs.given.write_rows.Goals as goal

pub loop-i-preserved : goal.loop-i-preserved
loop-i-preserved c =
    let w = length c.args.objective.now in
    let n = length c.args.constraints.now in
    let within : c.loop-i.i * w + w ≤ length c.loop-i.given =
    piece_within w (n + 1) c.loop-i.i c.loop-i.given (c.loop-i.auto.given ∙ c.requires.long) c.loop-i-test.true in
    given_more (numbers_of c.args.constraints.now) c.args.objective.now c.loop-i.i _ c.loop-i.given c.write_row.new.out (omega (arith, within))
    c.loop-i.invariant c.write_row.ensures

pub returns-clause-rows : goal.returns-clause-rows
returns-clause-rows c = record { each = λ i low. c.loop-i.invariant.each i (omega (arith, low, c.loop-i-test.false)) }
