use Rattle.std.proofs.Common.{◌≡◌, ◌*◌, ◌∙◌, ◌-◌, ◌^◌, min, get_or, unsigned_abs, FitsSigned, ap, arith, rules}
use Rattle.std.specs.Int.{w64}
use Rattle.std.proofs.lemmas.Int.{to_z-of_z}
use Rattle.frac_rows.specs.Rows.{number}
use Rattle.frac_rows.proofs.SumsOfProducts.{reach_more, reach_all}
use Rattle.frac_rows.proofs.products.reach.Goals as goal

pub loop-k-preserved : goal.loop-k-preserved
loop-k-preserved c =
    let x : FitsSigned w64 (number c.args.row.now c.loop-k.k) = search rules in
    let size : c.size_product.result ≡ unsigned_abs (number c.args.row.now c.loop-k.k) * get_or c.args.tops.now c.loop-k.k 0 =
    simp to_z-of_z at c.size_product.ensures in
    let more = reach_more c.args.row.now c.args.tops.now c.loop-k.k (omega (arith, c.requires)) c.loop-k-test.true in
    omega (arith, size, more)

pub returns : goal.returns
returns c =
    c.loop-k.invariant ∙ ap (min (2 ^ 128 - 1)) (reach_all c.args.row.now c.args.tops.now c.loop-k.k c.loop-k-test.false)
