use Rattle.std.proofs.Common.{◌∙◌, ◌-◌, length, FitsSigned, ap, rules}
use Rattle.std.specs.Int.{w64, is_negative}
use Rattle.std.proofs.lemmas.Int.{to_z-of_z}
use Rattle.frac_rows.proofs.WholeRows.{number_of_column}
use Rattle.frac_rows.proofs.pricing.is_below.Goals as goal

pub returns : goal.returns
returns c =
    let fits : FitsSigned w64 c.entry_of.result = search rules in
    ap is_negative (to_z-of_z w64 c.entry_of.result fits ∙ c.entry_of.ensures
    ∙ number_of_column (length c.args.whole.now.row.now - 1) c.args.whole.now.variables c.args.whole.now.numbers.now c.args.whole.now.row.now c.args.j c.requires.within)
