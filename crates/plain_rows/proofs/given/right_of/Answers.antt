use Rattle.std.proofs.Common.{◌≡◌, ◌-◌, ◌∙◌, length, FitsSigned, sym, ap, arith, rules}
use Rattle.std.specs.Int.{w64}
use Rattle.std.proofs.lemmas.Int.{to_z-of_z}
use Rattle.frac_rows.specs.Rows.{number, right_side}
use Rattle.plain_rows.specs.Plain.{IsConstraint}
use Rattle.plain_rows.proofs.GivenRows.{numbers_of, length_of, read_is, read_constraint, right_number}
use Rattle.plain_rows.proofs.given.right_of.Goals as goal
use Rattle.plain_rows.proofs.given.right_of.Goals.{After-deref}

constraint : (c : After-deref) → IsConstraint c.args.variables c.deref.result.now
constraint c =
    read_constraint c.args.variables c.args.constraints.now c.args.i c.deref.result.now c.index-constraints-i.result c.requires.each
    c.requires.row c.index-constraints-i.is c.deref.ensures.value

pub narrow_number-requires-clause-narrow : goal.narrow_number-requires-clause-narrow
narrow_number-requires-clause-narrow c = (constraint (goal.at.narrow_number-requires-clause-narrow c).After-deref).narrow

pub narrow_number-requires-clause-place : goal.narrow_number-requires-clause-place
narrow_number-requires-clause-place c =
    let long = (constraint (goal.at.narrow_number-requires-clause-place c).After-deref).long in
    omega (arith, long)

pub returns : goal.returns
returns c =
    let here = (goal.at.returns c).After-deref in
    let row = c.deref.result.now in
    let fits : FitsSigned w64 c.narrow_number.result = search rules in
    let long = (constraint here).long in
    let last : c.args.variables ≡ length row - 1 = omega (arith, long) in
    to_z-of_z w64 c.narrow_number.result fits ∙ c.narrow_number.ensures.value ∙ ap (number row) last
    ∙ ap right_side (read_is c.args.constraints.now c.args.i row c.index-constraints-i.result c.requires.row c.index-constraints-i.is c.deref.ensures.value)
    ∙ sym (right_number (numbers_of c.args.constraints.now) c.args.i (omega (arith, c.requires.row, length_of c.args.constraints.now)))
