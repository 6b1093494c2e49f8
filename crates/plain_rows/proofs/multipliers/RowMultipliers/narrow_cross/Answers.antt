use Rattle.std.proofs.Common.{◌≡◌, ◌≤◌, ◌^◌, ◌∙◌, ◌*ℤ◌, ◌-ℤ◌, unsigned_abs, FitsSigned, to_z, of_z, ap₂, arith, rules}
use Rattle.std.specs.Int.{w64, w128}
use Rattle.std.proofs.lemmas.Int.{ints, to_z-of_z}
use Rattle.plain_rows.proofs.SmallProducts.{small_fits}
use Rattle.plain_rows.proofs.multipliers.RowMultipliers.narrow_cross.Goals as goal
use Rattle.plain_rows.proofs.multipliers.RowMultipliers.narrow_cross.Goals.{After-small_product-then-is_small-4}

-- the difference of the two products fits
small : (c : After-small_product-then-is_small-4) → unsigned_abs (c.small_product.result -ℤ c.small_product-then-is_small-4.result) ≤ 2 ^ 62
small c = omega (arith, ints, c.small_product.ensures.size, c.small_product-then-is_small-4.ensures.size)

fits_first : (c : After-small_product-then-is_small-4) → FitsSigned w64 c.small_product.result
fits_first c = small_fits c.small_product.result (omega (arith, c.small_product.ensures.size))

fits_second : (c : After-small_product-then-is_small-4) → FitsSigned w64 c.small_product-then-is_small-4.result
fits_second c = small_fits c.small_product-then-is_small-4.result (omega (arith, c.small_product-then-is_small-4.ensures.size))

-- and passes through bits as it is
value : (c : After-small_product-then-is_small-4)
    → to_z w64 (of_z w64 (to_z w64 (of_z w64 c.small_product.result) -ℤ to_z w64 (of_z w64 c.small_product-then-is_small-4.result)))
    ≡ c.small_product.result -ℤ c.small_product-then-is_small-4.result
value c =
    rw (to_z-of_z w64 c.small_product.result (fits_first c), to_z-of_z w64 c.small_product-then-is_small-4.result (fits_second c))
    (to_z-of_z w64 (c.small_product.result -ℤ c.small_product-then-is_small-4.result)
    (small_fits (c.small_product.result -ℤ c.small_product-then-is_small-4.result) (small c)))

pub overflow_sub-result : goal.overflow_sub-result
overflow_sub-result c =
    rw (to_z-of_z w64 c.small_product.result (fits_first c), to_z-of_z w64 c.small_product-then-is_small-4.result (fits_second c))
    (small_fits (c.small_product.result -ℤ c.small_product-then-is_small-4.result) (small c))

pub returns-then-is_small-4-clause-value : goal.returns-then-is_small-4-clause-value
returns-then-is_small-4-clause-value c =
    let own : FitsSigned w64 c.args.self.own = search rules in
    let base : FitsSigned w64 c.args.self.base = search rules in
    value c
    ∙ ap₂ ◌-ℤ◌
    (c.small_product.ensures.value ∙ ap₂ ◌*ℤ◌ (to_z-of_z w64 c.args.self.own own) (to_z-of_z w64 c.args.x c.ranges.x))
    (c.small_product-then-is_small-4.ensures.value ∙ ap₂ ◌*ℤ◌ (to_z-of_z w64 c.args.self.base base) (to_z-of_z w64 c.args.y c.ranges.y))

pub returns-then-is_small-4-clause-size : goal.returns-then-is_small-4-clause-size
returns-then-is_small-4-clause-size c = rw (value c) (small c)

pub returns-clause-value : goal.returns-clause-value
returns-clause-value c =
    let z = c.cross-z.result in
    let whole : FitsSigned w128 z = search rules in
    let size : c.unsigned_abs.result ≡ unsigned_abs z = simp to_z-of_z at c.unsigned_abs.ensures.value in
    let narrow : unsigned_abs z ≤ 2 ^ 62 = omega (arith, size, c.from.ensures, c.if-unsigned_abs-from.false) in
    rw (to_z-of_z w128 z whole) (to_z-of_z w64 z (small_fits z narrow))
    ∙ (rw (to_z-of_z w64 c.args.x c.ranges.x, to_z-of_z w64 c.args.y c.ranges.y) at c.cross-z.ensures.value)
