use Rattle.std.proofs.Common.{◌≡◌, ℕ, ◌≤◌, ◌^◌, ◌∙◌, ℤ, pos, int_div, to_z, of_z, FitsSigned, unsigned_abs, sym, arith}
use Rattle.std.specs.Int.{w128}
use Rattle.std.proofs.lemmas.Int.{to_z-of_z, to_z_pos, fits_signed_from_abs}
use Rattle.frac_rows.specs.Divisors.{quotient}
use Rattle.frac_rows.proofs.Quotients.{none_by_zero, quotient_le}
use Rattle.plain_rows.proofs.ReducedRows.{quotient-one}
use Rattle.plain_rows.proofs.divisors.quotient.Goals as goal

pub returns-then-divisor-eq0 : goal.returns-then-divisor-eq0
returns-then-divisor-eq0 c = rw c.if-divisor-eq0.true (sym (none_by_zero c.args.z))

pub returns-then-divisor-eq1 : goal.returns-then-divisor-eq1
returns-then-divisor-eq1 c = rw c.if-divisor-eq1.true (to_z-of_z w128 c.args.z c.ranges.z ∙ sym (quotient-one c.args.z))

divided : (z : ℤ) (d : ℕ) → FitsSigned w128 z → unsigned_abs z ≤ 2 ^ 125 → d ≤ 2 ^ 125
    → to_z w128 (of_z w128 (int_div (to_z w128 (of_z w128 z)) (to_z w128 d))) ≡ quotient z d
unfolding quotient
divided z d fits small low =
    rw (to_z-of_z w128 z fits, to_z_pos w128 d (omega arith))
    (to_z-of_z w128 (int_div z (pos d)) (fits_signed_from_abs w128 (int_div z (pos d)) (omega (arith, quotient_le z d))))

pub returns : goal.returns
returns c = divided c.args.z c.args.divisor c.ranges.z c.requires.z_limit c.requires.divisor_limit
