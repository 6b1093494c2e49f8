use Rattle.std.proofs.Common.{◌≡◌, ◌∙◌, ◌-◌, length, nat_lt, unsigned_abs, FitsSigned, ap, ap₂, rules}
use Rattle.std.specs.Int.{w128}
use Rattle.std.proofs.lemmas.Int.{to_z-of_z}
use Rattle.frac_rows.specs.RoughRows.{number_of}
use Rattle.frac_rows.proofs.WholeRows.{whole_sum}
use Rattle.frac_rows.proofs.widths.is_wide_at.Goals as goal

pub returns : goal.returns
returns c =
    let fits : FitsSigned w128 c.sum_128.result = search rules in
    let is : c.unsigned_abs.result ≡ unsigned_abs c.sum_128.result = simp to_z-of_z at c.unsigned_abs.ensures.value in
    let size : c.unsigned_abs.result ≡ unsigned_abs (number_of c.args.whole.now.variables c.args.whole.now.numbers.now c.args.whole.now.row.now c.args.j) =
    is ∙ ap unsigned_abs (c.sum_128.ensures
    ∙ whole_sum (length c.args.whole.now.row.now - 1) c.args.whole.now.variables c.args.j c.args.whole.now.numbers.now c.args.whole.now.tops.now c.args.whole.now.row.now c.requires.whole.columns
    c.requires.within c.requires.whole.narrow) in
    ap₂ nat_lt c.from.ensures size
