use Rattle.std.proofs.Common.{◌≡◌, length, ap, sym, ◌∙◌, arith}
use Rattle.frac_rows.specs.Stored.{Matrix}
use Rattle.frac_rows.proofs.WholeRows.{length-columns_of}
use Rattle.frac_rows.proofs.columns.Columns.entry.Goals as goal

pub entry_of-requires-clause-within : goal.entry_of-requires-clause-within
entry_of-requires-clause-within c =
    let variables : length c.args.self.now.columns ≡ c.self.inside.variables =
    ap (λ (m : Matrix). length m.columns) (sym c.self.view_is) ∙ length-columns_of c.self.inside.height c.self.inside.variables c.self.inside.numbers.items in
    omega (arith, variables, c.requires.within, c.requires.long)
