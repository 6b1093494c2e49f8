use Rattle.std.proofs.Common.{◌≡◌, ◌+◌, ◌<◌, ◌+ℤ◌, ◌*ℤ◌, FitsSigned, pos, sym, ap, ◌∙◌, arith, rules, le_refl}
use Rattle.std.specs.Int.{w32, int_wrap}
use Rattle.std.proofs.Math.IntN.{zero-*ℤ}
use Rattle.std.proofs.lemmas.Int.{ints, int_wrap_fits, to_z-of_z}
use Rattle.std.proofs.lemmas.List.{length-set}
use Rattle.frac_rows.specs.Rows.{number}
use Rattle.frac_rows.proofs.RoughRows.{block_at, products_done, products_rest}
use Rattle.frac_rows.proofs.rough_rows.add_block.Goals as goal

pub returns-then-factor-eq0 : goal.returns-then-factor-eq0
returns-then-factor-eq0 c = λ l low.
    let x = number c.args.sums.now l in
    let y = number c.args.row.now (c.args.first + l) in
    let range = c.ranges.factor in
    let zero : c.args.factor ≡ pos 0 = omega (arith, ints, c.if-factor-eq0.true) in
    let same : x +ℤ c.args.factor *ℤ y ≡ x = omega (arith, ints, ap (λ f. f *ℤ y) zero ∙ zero-*ℤ y) in
    rw same (sym (int_wrap_fits w32 x (c.requires.fit l low)))

pub loop-l-preserved : goal.loop-l-preserved
loop-l-preserved c =
    let i = c.loop-l.l in
    let low : i < 32 = c.loop-l-test.true in
    let f = c.ranges.factor in
    let x : FitsSigned w32 (number c.loop-l.sums i) = search rules in
    let y : FitsSigned w32 (number c.block_of-block.result.now i) = search rules in
    let at : number c.block_of-block.result.now i ≡ number c.args.row.now (c.args.first + i) =
    ap (λ r. number r i) c.block_of-block.ensures.value ∙ block_at c.args.row.now c.args.first i low in
    let told : c.wrapped_32.result ≡ int_wrap w32 (number c.loop-l.sums i +ℤ c.args.factor *ℤ number c.block_of-block.result.now i) =
    simp to_z-of_z at c.wrapped_32.ensures in
    let is : c.wrapped_32.result ≡ int_wrap w32 (number c.loop-l.sums i +ℤ c.args.factor *ℤ number c.args.row.now (c.args.first + i)) =
    told ∙ ap (λ z. int_wrap w32 (number c.loop-l.sums i +ℤ c.args.factor *ℤ z)) at in
    let fits : FitsSigned w32 c.wrapped_32.result = search rules in
    rw (to_z-of_z w32 c.wrapped_32.result fits, to_z-of_z w32 c.args.factor f)
    (record {
      long = length-set c.loop-l.sums i c.wrapped_32.result ∙ c.loop-l.invariant.long;
      done =
          products_done c.args.sums.now c.loop-l.sums c.args.row.now c.args.first i c.args.factor c.wrapped_32.result
          (omega (arith, low, c.loop-l.invariant.long)) (rw (to_z-of_z w32 c.args.factor f) at c.loop-l.invariant.done)
          (c.loop-l.invariant.rest i (le_refl i)) is;
      rest = products_rest c.args.sums.now c.loop-l.sums i c.wrapped_32.result c.loop-l.invariant.rest;
    })
