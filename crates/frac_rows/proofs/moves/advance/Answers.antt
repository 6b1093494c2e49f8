use Rattle.std.proofs.Common.{◌≡◌, ◌∙◌, ◌+◌, ◌-◌, ◌<◌, length, sym, ap, arith}
use Rattle.frac_rows.specs.Rows.{Table, entering, first_negative, is_wide}
use Rattle.frac_rows.specs.Runs.{goes}
use Rattle.frac_rows.specs.Stored.{extended, piece, table_of}
use Rattle.frac_rows.proofs.Linear.{length-extended}
use Rattle.frac_rows.proofs.Pivots.{not_wide_table}
use Rattle.frac_rows.proofs.Ratios.{objective-table_of}
use Rattle.frac_rows.proofs.RunSteps.{first_negative_within, step_best, step_stuck, step_wide, step_goes}
use Rattle.frac_rows.proofs.moves.advance.Goals as goal
use Rattle.frac_rows.proofs.moves.advance.Goals.{After-first_negative, In-Some}

-- the table that the step begins with
table : After-first_negative → Table
table c = table_of c.args.columns.now c.args.numbers.now c.args.basis.now

-- the column that was found
found : (c : After-first_negative) → entering (table c) ≡ c.first_negative.result
unfolding table
found c =
    let m = c.args.columns.now in
    let objective : c.part-objective.result.now ≡ piece (m.height + 1) c.args.numbers.now (m.height - 1) =
    c.part-objective.ensures.value ∙ ap (λ h. piece (h + 1) c.args.numbers.now (h - 1)) c.height-height.ensures.value in
    objective-table_of m c.args.numbers.now c.args.basis.now c.requires.stored.one_each
    ∙ ap (λ p. first_negative (extended m.columns p)) (sym objective) ∙ sym c.first_negative.ensures

within : (c : In-Some) → c.in-Some.column + 1 < length c.args.columns.now.columns + c.args.columns.now.height
within c =
    let m = c.args.columns.now in
    let found = first_negative_within (extended m.columns c.part-objective.result.now) c.in-Some.column (sym c.first_negative.ensures ∙ c.in-Some.is) in
    omega (
      arith,
      found.0,
      length-extended m.columns c.part-objective.result.now,
      c.part-objective.ensures.long,
      c.height-height.ensures.value,
    )

pub returns-in_default-clause-ends : goal.returns-in_default-clause-ends
unfolding table
returns-in_default-clause-ends c =
    let here = (goal.at.returns-in_default-clause-ends c).After-first_negative in
    step_best (table here) (found here ∙ c.in_default.is)

pub write_entering-requires-clause-within : goal.write_entering-requires-clause-within
write_entering-requires-clause-within c = let w = within (goal.at.write_entering-requires-clause-within c).In-Some in omega (arith, w)

pub returns-in_default-leaving-clause-ends : goal.returns-in_default-leaving-clause-ends
unfolding table
returns-in_default-leaving-clause-ends c =
    let here = (goal.at.returns-in_default-leaving-clause-ends c).After-first_negative in
    step_stuck (table here) c.in-Some.column (found here ∙ c.in-Some.is) (sym c.leaving.ensures.value ∙ c.in_default-leaving.is)

pub pivot_on-requires-clause-column : goal.pivot_on-requires-clause-column
pivot_on-requires-clause-column c = within (goal.at.pivot_on-requires-clause-column c).In-Some

pub returns-in-Ok-clause-goes : goal.returns-in-Ok-clause-goes
unfolding table
returns-in-Ok-clause-goes c = λ _.
    let here = (goal.at.returns-in-Ok-clause-goes c).After-first_negative in
    let after = c.in-Ok.ensures.ok in
    step_goes (table here) c.in-Some.column c.in-Some-leaving.row (found here ∙ c.in-Some.is) (sym c.leaving.ensures.value ∙ c.in-Some-leaving.is)
    (ap is_wide (sym after) ∙ not_wide_table c.args.columns.now c.pivot_on.new.numbers c.pivot_on.new.basis c.pivot_on.ensures.stored.kept)
    ∙ ap goes (sym after)

pub returns-in-Err-clause-ends : goal.returns-in-Err-clause-ends
unfolding table
returns-in-Err-clause-ends c =
    let here = (goal.at.returns-in-Err-clause-ends c).After-first_negative in
    step_wide (table here) c.in-Some.column c.in-Some-leaving.row (found here ∙ c.in-Some.is) (sym c.leaving.ensures.value ∙ c.in-Some-leaving.is)
    c.in-Err.ensures.err
