use Rattle.std.proofs.Common.{◌∙◌, length, FitsSigned, sym, arith, rules}
use Rattle.std.specs.Int.{w64}
use Rattle.std.proofs.lemmas.Int.{to_z-of_z}
use Rattle.frac_rows.specs.Rows.{number}
use Rattle.plain_rows.proofs.Spread.{number-spread, right-spread}
use Rattle.plain_rows.proofs.entries.number.Goals as goal

pub returns-then-column-v : goal.returns-then-column-v
returns-then-column-v c =
    let right = number c.args.kept.now (length c.args.outside.now) in
    let fits : FitsSigned w64 right = search rules in
    to_z-of_z w64 right fits
    ∙ sym (right-spread c.args.outside.now c.args.owner c.args.v c.args.column c.args.kept.now (omega (arith, c.requires.column, c.if-column-v.true)))

pub returns : goal.returns
returns c =
    let fits : FitsSigned w64 c.number_before_right.result = search rules in
    to_z-of_z w64 c.number_before_right.result fits ∙ c.number_before_right.ensures
    ∙ sym (number-spread c.args.outside.now c.args.owner c.args.v c.args.column c.args.kept.now (omega (arith, c.if-column-v.false)))
