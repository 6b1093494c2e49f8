use Rattle.std.proofs.Common.{◌≡◌, ◌<◌, ◌∙◌, length, get_or, sym, ap, arith}
use Rattle.std.proofs.lemmas.List.{get_or_read}
use Rattle.frac_rows.specs.Rows.{Table}
use Rattle.plain_rows.proofs.FlatTables.{basis_of}
use Rattle.plain_rows.proofs.plain_rows.PlainRows.basic.Goals as goal
use Rattle.plain_rows.proofs.plain_rows.PlainRows.basic.Goals.{After-self}

basis : (c : After-self) → c.args.self.now.basis ≡ c.self.inside.basis.items
basis c =
    ap (λ (t : Table). t.basis) (sym c.self.view_is)
    ∙ basis_of c.self.inside.outside.items c.self.inside.numbers.items c.self.inside.basis.items

within : (c : After-self) → c.args.row < length c.self.inside.basis.items
within c = omega (arith, ap length (basis c), c.requires)

pub index-requires : goal.index-requires
index-requires c = omega (arith, within c, c.self.inside.basis.ok.0)

pub returns : goal.returns
returns c =
    let here = (goal.at.returns c).After-self in
    get_or_read c.self.inside.basis.items c.args.row c.index.result.now (within here) c.index.ensures 0
    ∙ ap (λ b. get_or b c.args.row 0) (sym (basis here))
