use Rattle.std.proofs.Common.{◌≡◌, ◌+◌, ◌<◌, ◌≤◌, ◌∙◌, length, get_or, unsigned_abs, FitsSigned, sym, ap, subst, arith, rules}
use Rattle.std.specs.Int.{w64}
use Rattle.std.proofs.lemmas.Int.{to_z-of_z}
use Rattle.frac_rows.specs.Rows.{Table, widest, number, row_at, objective}
use Rattle.frac_rows.specs.Stored.{piece}
use Rattle.frac_rows.proofs.Divided.{narrow_at}
use Rattle.plain_rows.specs.Flat.{owners, v_of, width_of, whole_row}
use Rattle.plain_rows.proofs.WholeRows.{narrow_spread}
use Rattle.plain_rows.proofs.FlatTables.{basis_of, width_is, row_at-table_of, row_within, length_row}
use Rattle.plain_rows.proofs.plain_rows.PlainRows.number.Goals as goal
use Rattle.plain_rows.proofs.plain_rows.PlainRows.number.Goals.{After-self, After-number}

row_low : (c : After-self) → c.args.row < length c.self.inside.basis.items + 1
row_low c =
    let s = c.self.inside in
    let constraints = ap (λ (t : Table). length t.basis) (sym c.self.view_is) ∙ ap length (basis_of s.outside.items s.numbers.items s.basis.items) in
    omega (arith, constraints, c.requires.row)

pub part-kept-requires : goal.part-kept-requires
part-kept-requires c =
    let s = c.self.inside in
    let here = (goal.at.part-kept-requires c).After-self in
    let whole = row_within (width_of s.outside.items) (length s.basis.items + 1) c.args.row s.numbers.items c.self.invariant.stored.rows (row_low here) in
    let width : c.len.result + 2 ≡ width_of s.outside.items = omega (arith, c.len.ensures, s.outside.ok.0) in
    rw (c.deref.ensures.value, width) whole

pub number-requires-clause-column : goal.number-requires-clause-column
number-requires-clause-column c =
    let s = c.self.inside in
    let width = ap (λ (t : Table). length (objective t)) (sym c.self.view_is) ∙ width_is s.outside.items s.numbers.items s.basis.items in
    omega (arith, width, c.requires.column, c.len-2.ensures, c.len-3.ensures, s.outside.ok.0, s.basis.ok.0)

-- what was read is of the whole row
read : (c : After-number) → c.number.result ≡ number (whole_row c.self.inside.outside.items c.self.inside.numbers.items c.self.inside.basis.items c.args.row) c.args.column
read c =
    let s = c.self.inside in
    let v : c.len-2.result + c.len-3.result ≡ v_of s.outside.items s.basis.items =
    omega (arith, c.len-2.ensures, c.len-3.ensures, s.outside.ok.0, s.basis.ok.0) in
    let width : c.len.result + 2 ≡ width_of s.outside.items = omega (arith, c.len.ensures, s.outside.ok.0) in
    let kept : c.part-kept.result.now ≡ piece (width_of s.outside.items) s.numbers.items c.args.row = rw (width, c.deref.ensures.value) at c.part-kept.ensures.value in
    let owner : c.owner_of.result ≡ get_or (owners (v_of s.outside.items s.basis.items) s.basis.items) c.args.row 0 =
    rw (v, c.deref-3.ensures.value) at c.owner_of.ensures in
    rw (c.deref-2.ensures.value, owner, v, kept) at c.number.ensures

pub returns-clause-value : goal.returns-clause-value
returns-clause-value c =
    let s = c.self.inside in
    let at = goal.at.returns-clause-value c in
    let fits : FitsSigned w64 c.number.result = search rules in
    to_z-of_z w64 c.number.result fits ∙ read at.After-number
    ∙ ap (λ row. number row c.args.column) (sym (row_at-table_of s.outside.items s.numbers.items s.basis.items c.args.row (row_low at.After-self)))
    ∙ ap (λ (t : Table). number (row_at t c.args.row) c.args.column) c.self.view_is

pub returns-clause-size : goal.returns-clause-size
returns-clause-size c =
    let s = c.self.inside in
    let at = goal.at.returns-clause-size c in
    let fits : FitsSigned w64 c.number.result = search rules in
    let low = row_low at.After-self in
    let row = piece (width_of s.outside.items) s.numbers.items c.args.row in
    let v = v_of s.outside.items s.basis.items in
    subst (λ z. unsigned_abs z ≤ widest) (sym (to_z-of_z w64 c.number.result fits ∙ read at.After-number))
    (narrow_at (whole_row s.outside.items s.numbers.items s.basis.items c.args.row) c.args.column
    (narrow_spread s.outside.items (get_or (owners v s.basis.items) c.args.row 0) v row
    (length_row (width_of s.outside.items) (length s.basis.items + 1) c.args.row s.numbers.items c.self.invariant.stored.rows low)
    (c.self.invariant.stored.rows.each c.args.row low).narrow))
