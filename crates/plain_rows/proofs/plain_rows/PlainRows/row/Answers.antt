use Rattle.std.proofs.Common.{◌≡◌, ◌+◌, ◌<◌, ◌∙◌, length, get_or, sym, ap, arith}
use Rattle.std.proofs.lemmas.List.{with_items_is}
use Rattle.frac_rows.specs.Rows.{Table, row_at}
use Rattle.frac_rows.specs.Stored.{piece}
use Rattle.plain_rows.specs.Flat.{owners, v_of, width_of, whole_row}
use Rattle.plain_rows.proofs.Columns.{length-owners, spread_of}
use Rattle.plain_rows.proofs.FlatTables.{basis_of, row_at-table_of, row_within}
use Rattle.plain_rows.proofs.plain_rows.PlainRows.row.Goals as goal
use Rattle.plain_rows.proofs.plain_rows.PlainRows.row.Goals.{After-self, After-owner_of}

row_low : (c : After-self) → c.args.row < length c.self.inside.basis.items + 1
row_low c =
    let s = c.self.inside in
    let constraints = ap (λ (t : Table). length t.basis) (sym c.self.view_is) ∙ ap length (basis_of s.outside.items s.numbers.items s.basis.items) in
    omega (arith, constraints, c.requires)

pub part-kept-requires : goal.part-kept-requires
part-kept-requires c =
    let s = c.self.inside in
    let here = (goal.at.part-kept-requires c).After-self in
    let whole = row_within (width_of s.outside.items) (length s.basis.items + 1) c.args.row s.numbers.items c.self.invariant.stored.rows (row_low here) in
    let width : c.len.result + 2 ≡ width_of s.outside.items = omega (arith, c.len.ensures, s.outside.ok.0) in
    rw (c.deref.ensures.value, width) whole

v_is : (c : After-owner_of) → c.len-2.result + c.len-3.result ≡ v_of c.self.inside.outside.items c.self.inside.basis.items
v_is c =
    let s = c.self.inside in
    omega (arith, c.len-2.ensures, c.len-3.ensures, s.outside.ok.0, s.basis.ok.0)

owner : (c : After-owner_of) → c.owner_of.result ≡ get_or (owners (v_of c.self.inside.outside.items c.self.inside.basis.items) c.self.inside.basis.items) c.args.row 0
owner c = rw (v_is c, c.deref-3.ensures.value) at c.owner_of.ensures

pub write_spread-requires-clause-columns : goal.write_spread-requires-clause-columns
write_spread-requires-clause-columns c =
    let s = c.self.inside in
    let at = goal.at.write_spread-requires-clause-columns c in
    let v = v_of s.outside.items s.basis.items in
    rw (c.deref-2.ensures.value, owner at.After-owner_of, v_is at.After-owner_of)
    (spread_of v s.outside.items (owners v s.basis.items) c.args.row c.self.invariant.stored.columns
    (omega (arith, row_low at.After-self, length-owners v s.basis.items)))

pub returns : goal.returns
returns c =
    let s = c.self.inside in
    let at = goal.at.returns c in
    let width : c.len.result + 2 ≡ width_of s.outside.items = omega (arith, c.len.ensures, s.outside.ok.0) in
    let kept : c.part-kept.result.now ≡ piece (width_of s.outside.items) s.numbers.items c.args.row =
    rw (width, c.deref.ensures.value) at c.part-kept.ensures.value in
    let whole : c.write_spread.new.out ≡ whole_row s.outside.items s.numbers.items s.basis.items c.args.row =
    rw (c.deref-2.ensures.value, owner at.After-owner_of, v_is at.After-owner_of, kept) at c.write_spread.ensures in
    with_items_is c.in_ok-numbers.numbers c.write_spread.new.out (omega (arith, c.write_spread.auto.out, c.deref_mut.ensures.len))
    ∙ whole
    ∙ sym (row_at-table_of s.outside.items s.numbers.items s.basis.items c.args.row (row_low at.After-self))
    ∙ ap (λ (t : Table). row_at t c.args.row) c.self.view_is
