use Rattle.std.proofs.Common.{◌≡◌, ◌*ℤ◌, to_z, of_z, arith}
use Rattle.std.specs.Int.{w64}
use Rattle.std.proofs.lemmas.Int.{to_z-of_z}
use Rattle.plain_rows.proofs.SmallProducts.{small_size, small_fits}
use Rattle.plain_rows.proofs.multipliers.small_product.Goals as goal
use Rattle.plain_rows.proofs.multipliers.small_product.Goals.{Start}

value : (c : Start) → to_z w64 (of_z w64 (to_z w64 (of_z w64 c.args.a) *ℤ to_z w64 (of_z w64 c.args.b))) ≡ c.args.a *ℤ c.args.b
value c =
    let size = small_size c.args.a c.args.b c.requires.a_limit c.requires.b_limit in
    rw (to_z-of_z w64 c.args.a c.ranges.a, to_z-of_z w64 c.args.b c.ranges.b)
    (to_z-of_z w64 (c.args.a *ℤ c.args.b) (small_fits (c.args.a *ℤ c.args.b) (omega (arith, size))))

pub returns-clause-value : goal.returns-clause-value
returns-clause-value c = value c

pub returns-clause-size : goal.returns-clause-size
returns-clause-size c = rw (value c) (small_size c.args.a c.args.b c.requires.a_limit c.requires.b_limit)
