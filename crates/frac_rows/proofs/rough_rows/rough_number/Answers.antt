use Rattle.std.proofs.Common.{◌≡◌, ◌<◌, ◌^◌, ◌-ℤ◌, ◌*ℤ◌, ◌∙◌, pos, unsigned_abs, FitsSigned, ap, ap₂, arith, rules}
use Rattle.std.specs.Int.{w32, w64, w128}
use Rattle.std.proofs.lemmas.Int.{ints, to_z-of_z, to_z_pos}
use Rattle.frac_rows.proofs.RoughRows.{rough_within}
use Rattle.frac_rows.proofs.rough_rows.rough_number.Goals as goal

pub returns : goal.returns
returns c =
    let n = c.in_ok-number.number in
    let x = c.ranges.x in
    let fits : FitsSigned w32 n = search rules in
    let from : c.from.result ≡ c.args.x = simp to_z-of_z at c.from.ensures in
    let short : c.from-2.result ≡ n = simp to_z-of_z at c.from-2.ensures in
    let y : FitsSigned w64 c.from-2.result = search rules in
    let small : c.args.step < 2 ^ 63 = omega (arith, c.requires.step) in
    let product : c.product.result ≡ pos c.args.step *ℤ n =
    c.product.ensures.value ∙ ap₂ ◌*ℤ◌ (to_z_pos w64 c.args.step small) (to_z-of_z w64 c.from-2.result y ∙ short) in
    let whole : FitsSigned w128 c.from.result = search rules in
    let part : FitsSigned w128 c.product.result = search rules in
    let rest : FitsSigned w128 (c.from.result -ℤ c.product.result) = omega (arith, ints, from, c.product.ensures.size) in
    let size : c.unsigned_abs.result ≡ unsigned_abs (c.from.result -ℤ c.product.result) = simp to_z-of_z at c.unsigned_abs.ensures.value in
    rw (to_z-of_z w32 n fits)
    (rough_within c.args.x c.product.result n (c.from.result -ℤ c.product.result) c.args.step c.unsigned_abs.result product
    (ap (λ z. z -ℤ c.product.result) from) size (omega (arith, c.if-unsigned_abs-from.false, c.from-3.ensures)))
