use Rattle.std.proofs.Common.{◌≡◌, ℤ, ◌≤◌, ◌*◌, sum, pos, unsigned_abs, IfSome, Option, FitsSigned, ap, subst, ◌∙◌, rules, arith}
use Rattle.std.specs.Int.{w32, w64}
use Rattle.std.proofs.lemmas.Int.{ints, to_z-of_z}
use Rattle.std.proofs.lemmas.Bool.{leb-true}
use Rattle.frac_rows.specs.Rows.{widest}
use Rattle.frac_rows.specs.Stored.{reach}
use Rattle.frac_rows.specs.RoughRows.{IsMargin}
use Rattle.frac_rows.proofs.SumsOfProducts.{reach_sizes}
use Rattle.frac_rows.proofs.WholeRows.{variables_within_reach}
use Rattle.frac_rows.proofs.columns.Columns.stays_within.Goals as goal

pub returns : goal.returns
returns c = λ told row sizes.
    let tops = c.self.inside.tops.items in
    let is : IsMargin c.self.inside.height tops c.in-Some.margin =
    subst (λ (o : Option ℤ). IfSome o (IsMargin c.self.inside.height tops)) c.in-Some.is c.self.invariant.is_margin in
    let fits : FitsSigned w32 c.in-Some.margin = omega (arith, ints, is.is_sum, is.small) in
    let passed : FitsSigned w64 c.from.result = search rules in
    let margin : c.from.result ≡ pos (sum tops) = c.from.ensures ∙ to_z-of_z w32 c.in-Some.margin fits ∙ is.is_sum in
    let product : c.size_product.result ≡ sum tops * c.args.most =
    c.size_product.ensures ∙ ap (λ z. unsigned_abs z * c.args.most) (to_z-of_z w64 c.from.result passed ∙ margin) in
    let within : reach row tops ≤ widest =
    omega (arith, reach_sizes row tops c.args.most sizes, product, c.from-2.ensures, leb-true c.size_product.result c.from-2.result told) in
    rw (← c.self.view_is)
    (variables_within_reach c.self.inside.height c.self.inside.variables c.self.inside.numbers.items tops row c.self.invariant.columns within)
