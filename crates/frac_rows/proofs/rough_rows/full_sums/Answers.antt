use Rattle.std.proofs.Common.{◌≡◌, ◌+◌, ◌∙◌, ◌<◌, ◌+ℤ◌, ◌*ℤ◌, ℕ, length, FitsSigned, sym, subst, ap, arith, rules}
use Rattle.std.specs.Int.{w32, int_wrap}
use Rattle.std.proofs.lemmas.Int.{to_z-of_z, SFits-int_wrap}
use Rattle.frac_rows.specs.Rows.{number}
use Rattle.frac_rows.proofs.RoughRows.{summed_more, summed_all}
use Rattle.frac_rows.proofs.rough_rows.full_sums.Goals as goal

pub add_block-requires-clause-fit : goal.add_block-requires-clause-fit
add_block-requires-clause-fit c = λ l low.
    subst (FitsSigned w32) (sym (c.loop-k.invariant.each l (omega (arith, low, c.loop-k.invariant.long)))) (SFits-int_wrap w32 _)

pub loop-k-preserved : goal.loop-k-preserved
loop-k-preserved c =
    let x : FitsSigned w32 (number c.args.rough.now c.loop-k.k) = search rules in
    let long : length c.add_block.new.sums ≡ 32 = c.add_block.array_long in
    let added : (l : ℕ) → l < length c.loop-k.sums → number c.add_block.new.sums l
    ≡ int_wrap w32 (number c.loop-k.sums l +ℤ number c.args.rough.now c.loop-k.k *ℤ number c.row_at.result.now (c.args.first + l)) =
    λ l low. simp to_z-of_z at (c.add_block.ensures l (omega (arith, low, c.loop-k.invariant.long))) in
    record {
      long = long;
      each =
          summed_more c.args.numbers.now c.args.variables c.args.first c.args.rough.now c.loop-k.sums c.add_block.new.sums c.row_at.result.now c.loop-k.k
          c.loop-k-test.true c.row_at.ensures.value (long ∙ sym c.loop-k.invariant.long) c.loop-k.invariant.each added;
    }

pub returns-clause-sums : goal.returns-clause-sums
returns-clause-sums c = λ l low.
    c.loop-k.invariant.each l (omega (arith, low, c.loop-k.invariant.long))
    ∙ ap (int_wrap w32) (summed_all c.args.numbers.now c.args.variables (c.args.first + l) c.args.rough.now c.loop-k.k c.loop-k-test.false)
