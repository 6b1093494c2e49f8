use Rattle.std.proofs.Common.{◌≡◌, ◌+◌, ◌∙◌, ◌<◌, ◌+ℤ◌, ◌*ℤ◌, ℕ, length, FitsSigned, sym, subst, ap, rules}
use Rattle.std.specs.Int.{w32, int_wrap}
use Rattle.std.proofs.lemmas.Int.{to_z-of_z, SFits-int_wrap}
use Rattle.frac_rows.specs.Rows.{number}
use Rattle.frac_rows.proofs.RoughRows.{summed_more, summed_all}
use Rattle.frac_rows.proofs.rough_rows.rough_sums.Goals as goal

pub loop-k-preserved : goal.loop-k-preserved
loop-k-preserved c =
    let x : FitsSigned w32 (number c.args.rough.now c.loop-k.k) = search rules in
    let added : (l : ℕ) → l < length c.loop-k.sums → number c.add_products.new.sums l
    ≡ int_wrap w32 (number c.loop-k.sums l +ℤ number c.args.rough.now c.loop-k.k *ℤ number c.row_at.result.now (c.args.first + l)) =
    simp to_z-of_z at c.add_products.ensures in
    summed_more c.args.numbers.now c.args.variables c.args.first c.args.rough.now c.loop-k.sums c.add_products.new.sums c.row_at.result.now c.loop-k.k
    c.loop-k-test.true c.row_at.ensures.value c.add_products.auto.sums c.loop-k.invariant added

pub returns : goal.returns
returns c = λ l low.
    c.loop-k.invariant l low
    ∙ ap (int_wrap w32) (summed_all c.args.numbers.now c.args.variables (c.args.first + l) c.args.rough.now c.loop-k.k c.loop-k-test.false)

pub add_products-requires-clause-fit : goal.add_products-requires-clause-fit
add_products-requires-clause-fit c = λ l low. subst (FitsSigned w32) (sym (c.loop-k.invariant l low)) (SFits-int_wrap w32 _)
