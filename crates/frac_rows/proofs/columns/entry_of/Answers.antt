use Rattle.std.proofs.Common.{◌∙◌, ◌-◌, length, FitsSigned, sym, rules}
use Rattle.std.specs.Int.{w64}
use Rattle.std.proofs.lemmas.Int.{to_z-of_z}
use Rattle.frac_rows.specs.Rows.{number}
use Rattle.frac_rows.proofs.WholeRows.{wrapped_number, number_behind_columns}
use Rattle.frac_rows.proofs.columns.entry_of.Goals as goal

pub returns-then-column-variables : goal.returns-then-column-variables
returns-then-column-variables c =
    let fits : FitsSigned w64 c.sum_64.result = search rules in
    rw (to_z-of_z w64 c.sum_64.result fits)
    (wrapped_number (length c.args.row.now - 1) c.args.variables c.args.numbers.now c.args.row.now c.args.column c.sum_64.result
    c.if-column-variables.true c.requires.narrow c.sum_64.ensures)

pub returns : goal.returns
returns c =
    let fits : FitsSigned w64 (number c.args.row.now (c.args.column - c.args.variables)) = search rules in
    to_z-of_z w64 _ fits
    ∙ sym (number_behind_columns (length c.args.row.now - 1) c.args.variables c.args.numbers.now c.args.row.now c.args.column c.if-column-variables.false)
