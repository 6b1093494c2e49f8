use Rattle.std.proofs.Common.{◌<◌, ◌∙◌, length, sym, ap, arith, rules, FitsSigned}
use Rattle.std.specs.Int.{w64}
use Rattle.std.proofs.lemmas.Int.{to_z-of_z}
use Rattle.frac_rows.specs.Rows.{Table, number, row_at, objective}
use Rattle.frac_rows.specs.Stored.{whole_row}
use Rattle.frac_rows.specs.Divisors.{reduced}
use Rattle.frac_rows.proofs.Pivots.{basis_of, row_at-table_of}
use Rattle.frac_rows.proofs.TableFacts.{width_is}
use Rattle.frac_rows.proofs.kept_rows.Rows.entry.Goals as goal
use Rattle.frac_rows.proofs.kept_rows.Rows.entry.Goals.{After-self}

row_within : (c : After-self) → c.args.row < c.self.inside.columns.height
row_within c =
    let s = c.self.inside in
    let constraints = ap (λ (t : Table). length t.basis) (sym c.self.view_is) ∙ ap length (basis_of s.columns s.numbers.items s.basis.items) in
    omega (arith, constraints, c.self.invariant.stored.one_each, c.requires.row)

pub entry-requires-clause-row : goal.entry-requires-clause-row
entry-requires-clause-row c = row_within (goal.at.entry-requires-clause-row c).After-self

pub entry-requires-clause-column : goal.entry-requires-clause-column
entry-requires-clause-column c =
    let s = c.self.inside in
    let width = ap (λ (t : Table). length (objective t)) (sym c.self.view_is) ∙ width_is s.columns s.numbers.items s.basis.items c.self.invariant.stored in
    omega (arith, width, c.requires.column)

pub returns : goal.returns
returns c =
    let s = c.self.inside in
    let here = (goal.at.returns c).After-self in
    let fits : FitsSigned w64 c.entry.result = search rules in
    to_z-of_z w64 c.entry.result fits ∙ c.entry.ensures
    ∙ ap (λ n. number (reduced (whole_row s.columns n c.args.row)) c.args.column) c.deref.ensures.value
    ∙ ap (λ r. number r c.args.column) (sym (row_at-table_of s.columns s.numbers.items s.basis.items c.args.row (row_within here)))
    ∙ ap (λ (t : Table). number (row_at t c.args.row) c.args.column) c.self.view_is
