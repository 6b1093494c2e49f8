use Rattle.std.proofs.Common.{◌≡◌, ◌∙◌, ◌+◌, ◌-◌, ◌*◌, ◌+ℤ◌, ◌*ℤ◌, FitsSigned, length, to_z, ap, sym, arith, rules}
use Rattle.std.specs.Int.{w32, w64, int_wrap}
use Rattle.std.proofs.lemmas.Int.{to_z-of_z}
use Rattle.frac_rows.specs.Rows.{number}
use Rattle.frac_rows.specs.Stored.{standing}
use Rattle.frac_rows.proofs.SumsOfProducts.{wrapped_more, dot_all}
use Rattle.frac_rows.proofs.WholeRows.{length-standing, standing_number}
use Rattle.frac_rows.proofs.products.sum_64.Goals as goal

pub loop-k-preserved : goal.loop-k-preserved
loop-k-preserved c =
    let height = length c.args.row.now - 1 in
    let column = standing c.args.numbers.now c.args.variables height c.args.j in
    let place = c.loop-k.k * c.args.variables + c.args.j in
    let so_far = to_z w64 c.loop-k.sum-bits in
    let sum : FitsSigned w64 so_far = search rules in
    let x : FitsSigned w64 (number c.args.row.now c.loop-k.k) = search rules in
    let y : FitsSigned w32 (number c.args.numbers.now place) = search rules in
    let z : FitsSigned w64 c.from.result = search rules in
    let from : c.from.result ≡ number c.args.numbers.now place = simp to_z-of_z at c.from.ensures in
    let at = standing_number c.args.numbers.now c.args.variables height c.args.j c.loop-k.k c.loop-k-test.true c.requires.within in
    let is : c.wrapped_64-sum.result ≡ int_wrap w64 (so_far +ℤ number c.args.row.now c.loop-k.k *ℤ c.from.result) =
    simp to_z-of_z at c.wrapped_64-sum.ensures in
    let more : FitsSigned w64 c.wrapped_64-sum.result = search rules in
    rw (to_z-of_z w64 c.wrapped_64-sum.result more)
    (wrapped_more w64 c.args.row.now column c.loop-k.k so_far c.wrapped_64-sum.result (omega (arith, c.loop-k-test.true))
    (omega (arith, c.loop-k-test.true, length-standing c.args.numbers.now c.args.variables height c.args.j)) c.loop-k.invariant
    (is ∙ ap (λ z. int_wrap w64 (so_far +ℤ number c.args.row.now c.loop-k.k *ℤ z)) (from ∙ sym at)))

pub returns : goal.returns
returns c =
    let height = length c.args.row.now - 1 in
    let column = standing c.args.numbers.now c.args.variables height c.args.j in
    let whole = length-standing c.args.numbers.now c.args.variables height c.args.j in
    c.loop-k.invariant ∙ ap (int_wrap w64) (dot_all c.args.row.now column c.loop-k.k (omega (arith, whole, c.loop-k-test.false)))
