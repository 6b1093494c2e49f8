use Rattle.std.proofs.Common.{◌∙◌, length, FitsSigned, sym, ap, arith, rules}
use Rattle.std.specs.Int.{w64}
use Rattle.std.proofs.lemmas.Int.{to_z-of_z}
use Rattle.frac_rows.specs.Rows.{number}
use Rattle.plain_rows.specs.Plain.{IsConstraint}
use Rattle.plain_rows.proofs.GivenRows.{numbers_of, length_of, read_is, read_constraint, constraint_number}
use Rattle.plain_rows.proofs.given.variable_number.Goals as goal
use Rattle.plain_rows.proofs.given.variable_number.Goals.{After-deref}

constraint : (c : After-deref) → IsConstraint (length c.args.objective.now) c.deref.result.now
constraint c =
    read_constraint (length c.args.objective.now) c.args.constraints.now c.args.i c.deref.result.now c.index-constraints-i.result c.requires.program.each
    c.if-i-constraints.true c.index-constraints-i.is c.deref.ensures.value

pub narrow_number-requires-clause-narrow : goal.narrow_number-requires-clause-narrow
narrow_number-requires-clause-narrow c = (constraint (goal.at.narrow_number-requires-clause-narrow c).After-deref).narrow

pub narrow_number-requires-clause-place : goal.narrow_number-requires-clause-place
narrow_number-requires-clause-place c =
    let long = (constraint (goal.at.narrow_number-requires-clause-place c).After-deref).long in
    omega (arith, long, c.requires.column)

pub returns-then-i-constraints-clause-value : goal.returns-then-i-constraints-clause-value
returns-then-i-constraints-clause-value c =
    let fits : FitsSigned w64 c.narrow_number.result = search rules in
    let cs = numbers_of c.args.constraints.now in
    to_z-of_z w64 c.narrow_number.result fits ∙ c.narrow_number.ensures.value
    ∙ ap (λ row. number row c.args.k)
    (read_is c.args.constraints.now c.args.i c.deref.result.now c.index-constraints-i.result c.if-i-constraints.true c.index-constraints-i.is c.deref.ensures.value)
    ∙ sym (constraint_number cs c.args.objective.now c.args.i c.args.k
    (omega (arith, c.if-i-constraints.true, length_of c.args.constraints.now)))
