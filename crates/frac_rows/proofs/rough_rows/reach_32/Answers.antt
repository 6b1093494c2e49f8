use Rattle.std.proofs.Common.{◌≡◌, ◌*◌, ◌∙◌, ◌-◌, ◌^◌, min, get_or, unsigned_abs, FitsSigned, ap, arith, rules}
use Rattle.std.specs.Int.{w32, w64}
use Rattle.std.proofs.lemmas.Int.{to_z-of_z}
use Rattle.frac_rows.specs.Rows.{number}
use Rattle.frac_rows.proofs.SumsOfProducts.{reach_more, reach_all}
use Rattle.frac_rows.proofs.rough_rows.reach_32.Goals as goal

pub loop-k-preserved : goal.loop-k-preserved
loop-k-preserved c =
    let x : FitsSigned w32 (number c.args.rough.now c.loop-k.k) = search rules in
    let y : FitsSigned w64 c.from.result = search rules in
    let is : c.from.result ≡ number c.args.rough.now c.loop-k.k = simp to_z-of_z at c.from.ensures in
    let size : c.size_product.result ≡ unsigned_abs c.from.result * get_or c.args.tops.now c.loop-k.k 0 = simp to_z-of_z at c.size_product.ensures in
    let more = reach_more c.args.rough.now c.args.tops.now c.loop-k.k (omega (arith, c.requires)) c.loop-k-test.true in
    omega (arith, size ∙ ap (λ z. unsigned_abs z * get_or c.args.tops.now c.loop-k.k 0) is, more)

pub returns : goal.returns
returns c =
    c.loop-k.invariant ∙ ap (min (2 ^ 128 - 1)) (reach_all c.args.rough.now c.args.tops.now c.loop-k.k c.loop-k-test.false)
