use Rattle.std.proofs.Common.{◌≡◌, ◌∙◌, ℤ, ◌-ℤ◌, ◌*ℤ◌, FitsSigned, to_z, of_z, ap₂, arith, rules}
use Rattle.std.specs.Int.{w64, w128}
use Rattle.std.proofs.lemmas.Int.{ints, to_z-of_z}
use Rattle.plain_rows.proofs.multipliers.RowMultipliers.cross.Goals as goal

-- two differences that fit, the first passed through bits
difference : (a b : ℤ) → FitsSigned w128 a → FitsSigned w128 b → FitsSigned w128 (a -ℤ b)
    → to_z w128 (of_z w128 (to_z w128 (of_z w128 a) -ℤ to_z w128 (of_z w128 b))) ≡ a -ℤ b
difference a b fa fb fits = rw (to_z-of_z w128 a fa, to_z-of_z w128 b fb) (to_z-of_z w128 (a -ℤ b) fits)

passed : (a b r : ℤ) → FitsSigned w64 a → FitsSigned w64 b → r ≡ to_z w64 (of_z w64 a) *ℤ to_z w64 (of_z w64 b) → r ≡ a *ℤ b
passed a b r fa fb h = h ∙ ap₂ ◌*ℤ◌ (to_z-of_z w64 a fa) (to_z-of_z w64 b fb)

pub returns-clause-value : goal.returns-clause-value
returns-clause-value c =
    let own : FitsSigned w64 c.args.self.own = search rules in
    let base : FitsSigned w64 c.args.self.base = search rules in
    let first = passed c.args.self.own c.args.x c.product.result own c.ranges.x c.product.ensures.value in
    let second = passed c.args.self.base c.args.y c.product-2.result base c.ranges.y c.product-2.ensures.value in
    difference c.product.result c.product-2.result (omega (arith, ints)) (omega (arith, ints)) (omega (arith, ints)) ∙ ap₂ ◌-ℤ◌ first second

pub returns-clause-size : goal.returns-clause-size
returns-clause-size c = omega (arith, ints)
