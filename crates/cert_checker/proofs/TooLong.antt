-- What is held is judged too long, also where the shelf tells nothing of it.
use Rattle.std.proofs.Common.{ℕ, ◌+◌, ◌<◌, List, length, Option, Some, None, replicate, arith}
use Rattle.std.proofs.lemmas.List.{length-replicate}
use Rattle.hub_io.specs.Outside.{Files, HoldsMore}
use Rattle.hub_spec.specs.Problem.{Problem}
use Rattle.cert_spec.specs.Verdicts.{too_long, certificate_limit}
use Rattle.cert_checker.specs.Held.{IsVerdictOnHeld}

-- some bytes, more of them than the limit
bytes_over : (limit : ℕ) → (bytes : List ℕ) × (limit < length bytes)
bytes_over limit = (replicate (limit + 1) 0, (let e = length-replicate {A = ℕ} (limit + 1) 0 in omega (arith, e)))

pub too_long_held : (p : Problem) (held : Option Files) (name : List ℕ) → HoldsMore held name certificate_limit → IsVerdictOnHeld p held name too_long
too_long_held p None name more =
    let some = bytes_over certificate_limit in
    record { bytes = some.0; are_held = tt; why = some.1; proves = tt; marks = tt }
too_long_held p (Some files) name more = record { bytes = more.0; are_held = more.1; why = more.2; proves = tt; marks = tt }
