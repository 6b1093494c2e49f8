use Rattle.std.proofs.Common.{◌≡◌, ℕ, ◌-◌, Bool, true, false, length, map, refl, sym, List, ℤ, arith}
use Rattle.frac_rows.specs.Rows.{is_wide_row}
use Rattle.frac_rows.specs.Stored.{columns_of, dot}
use Rattle.frac_rows.specs.RoughRows.{NoneWide, SomeWide}
use Rattle.frac_rows.proofs.WholeRows.{variables_narrow, variables_wide, variables_within_reach}
use Rattle.frac_rows.proofs.widths.is_wide_of.Goals as goal

pub returns-then-reach-from : goal.returns-then-reach-from
returns-then-reach-from c =
    sym (variables_within_reach (length c.args.row.now - 1) c.args.variables c.args.numbers.now c.args.tops.now c.args.row.now c.requires.columns
    (omega (arith, c.reach.ensures, c.from.ensures, c.if-reach-from.true)))

is_told : (b : Bool) (variables : ℕ) (numbers row : List ℤ) → (b ≡ false → NoneWide variables numbers row 0 variables) → (b ≡ true → SomeWide variables numbers row)
    → b ≡ is_wide_row (map (dot row) (columns_of (length row - 1) variables numbers))
is_told false variables numbers row none some =
    sym (variables_narrow (length row - 1) variables numbers row (λ k low. (none refl).each k (omega arith) low))
is_told true variables numbers row none some =
    let wide = some refl in
    sym (variables_wide (length row - 1) variables numbers row wide.j wide.within wide.wide)

pub returns : goal.returns
returns c = is_told c.some_wide.result c.args.variables c.args.numbers.now c.args.row.now c.some_wide.ensures.none c.some_wide.ensures.some
