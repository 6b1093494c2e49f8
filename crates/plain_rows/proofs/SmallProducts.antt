-- Products of small numbers, and numbers that fit their bits.
use Rattle.std.proofs.Common.{◌≤◌, ◌^◌, ◌*◌, ℤ, ◌*ℤ◌, unsigned_abs, FitsSigned, Result, Ok, Err, OnErr, arith}
use Rattle.std.specs.Int.{w64}
use Rattle.std.proofs.Math.Nat.{mul-le-mul}
use Rattle.std.proofs.lemmas.Int.{unsigned_abs-mul, fits_signed_from_abs}

pub small_size : (a b : ℤ) → unsigned_abs a ≤ 2 ^ 30 → unsigned_abs b ≤ 2 ^ 30 → unsigned_abs (a *ℤ b) ≤ 2 ^ 60
small_size a b p q =
    let product : unsigned_abs a * unsigned_abs b ≤ 2 ^ 30 * 2 ^ 30 = mul-le-mul p q in
    omega (arith, unsigned_abs-mul a b, product)

pub small_fits : (z : ℤ) → unsigned_abs z ≤ 2 ^ 62 → FitsSigned w64 z
small_fits z h = fits_signed_from_abs w64 z (omega arith)

-- what is true is true of a fault
pub on_err : {T E P : Type 0} (r : Result T E) → P → OnErr r P
on_err (Ok x) p = tt
on_err (Err e) p = p
