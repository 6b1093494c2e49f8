use Rattle.std.proofs.Common.{arith}
use Rattle.std.specs.Int.{w64, trailing_zeros}
use Rattle.std.proofs.lemmas.Nat.Bits.{bit_at-trailing_zeros}
use Rattle.frac_rows.proofs.OddGcds.{no_rest}
use Rattle.frac_rows.proofs.divisors.odd_part_64.Goals as goal

pub returns-clause-odd : goal.returns-clause-odd
returns-clause-odd c = (bit_at-trailing_zeros w64 c.args.n (omega (arith, c.requires)) (omega arith)).1

pub returns-clause-part : goal.returns-clause-part
returns-clause-part c =
    no_rest c.args.n (trailing_zeros w64 c.args.n) (bit_at-trailing_zeros w64 c.args.n (omega (arith, c.requires)) (omega arith)).2
