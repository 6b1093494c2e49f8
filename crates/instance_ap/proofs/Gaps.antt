-- Coordinates within their limit, as the machine has them, and taken from one another.
use Rattle.std.proofs.Common.{◌≡◌, ◌*◌, ◌^◌, ◌≤◌, ℤ, pos, negsuc, ◌-ℤ◌, nat_abs, FitsSigned, arith}
use Rattle.std.proofs.lemmas.Int.{ints, to_z-of_z}
use Rattle.file_spec.specs.Distances.{gap}
use mir.Val.{to_z, of_z}
use mir.Syntax.{w64}

fits : (a : ℤ) → nat_abs a ≤ 2 * 10 ^ 12 → FitsSigned w64 a
fits (pos n) h = record { sfits = omega arith }
fits (negsuc n) h = record { sfits = omega arith }

pub coordinate_same : (a : ℤ) → nat_abs a ≤ 10 ^ 12 → to_z w64 (of_z w64 a) ≡ a
coordinate_same a h = to_z-of_z w64 a (fits a (omega arith))

pub gap_same : (a b : ℤ) → nat_abs a ≤ 10 ^ 12 → nat_abs b ≤ 10 ^ 12
    → nat_abs (to_z w64 (of_z w64 (to_z w64 (of_z w64 a) -ℤ to_z w64 (of_z w64 b)))) ≡ gap a b
gap_same a b h k =
    let within : nat_abs (a -ℤ b) ≤ 2 * 10 ^ 12 = omega (arith, ints) in
    rw (to_z-of_z w64 a (fits a (omega arith)), to_z-of_z w64 b (fits b (omega arith)), to_z-of_z w64 (a -ℤ b) (fits (a -ℤ b) within))
