use Rattle.std.proofs.Common.{◌≡◌, ◌+◌, ◌*◌, ◌≤◌, ◌∙◌, length, FitsSigned, ap₂, arith, rules}
use Rattle.std.specs.Int.{w64}
use Rattle.std.proofs.lemmas.Int.{to_z-of_z}
use Rattle.std.proofs.lemmas.List.{length-take, length-drop}
use Rattle.frac_rows.proofs.WholeRows.{piece_within}
use Rattle.plain_rows.proofs.FirstRows.{first_kept, first_more}
use Rattle.plain_rows.proofs.starts.write_rows.Goals as goal

pub loop-i-preserved : goal.loop-i-preserved
loop-i-preserved c =
    let w = c.args.variables + 2 in
    let within : c.loop-i.i * w + w ≤ length c.loop-i.numbers =
    piece_within w (length c.args.rights.now + 1) c.loop-i.i c.loop-i.numbers (c.loop-i.auto.numbers ∙ c.requires.room) c.loop-i-test.true in
    let size : length c.write_row.new.out ≡ w = simp (length-take, length-drop) at c.write_row.auto.out ∙ omega (arith, within) in
    let fits : FitsSigned w64 c.first_right.result = search rules in
    first_more c.args.variables c.args.given.now c.args.rights.now c.loop-i.i _ c.loop-i.numbers c.write_row.new.out (omega (arith, within)) size
    c.loop-i.invariant
    (c.write_row.ensures ∙ ap₂ first_kept c.part.ensures.value (to_z-of_z w64 c.first_right.result fits ∙ c.first_right.ensures))

pub returns-clause-rows : goal.returns-clause-rows
returns-clause-rows c = record { each = λ i low. c.loop-i.invariant.each i (omega (arith, low, c.loop-i-test.false)) }
