-- The verdict on bytes that a shelf holds.
use Rattle.std.specs.Prelude.{◌≡◌, ℕ, ◌+◌, ◌≤◌, List, length, Option, ◌⊎◌}
use Rattle.std.specs.Io.KnownBytes.{Consumes, IsAtEnd}
use Rattle.hub_io.specs.Outside.{Files, Holds}
use Rattle.hub_spec.specs.Problem.{Problem}
use Rattle.cert_spec.specs.Verdicts.{Verdict, too_long, Why, certificate_limit}
use Rattle.cert_checker.specs.Shows.{Proves, ProvesMarks}

-- the verdict is the one on the bytes that are held under the name
pub record IsVerdictOnHeld (p : Problem) (held : Option Files) (name : List ℕ) (verdict : Verdict) : Type 0 where
  pub bytes : List ℕ
  pub are_held : Holds held name bytes
  pub why : Why p bytes verdict
  pub proves : Proves p bytes verdict
  pub marks : ProvesMarks p bytes verdict

-- all bytes came, within the limit, and the verdict is the one on them; or one byte more came than the limit
abbrev pub EndsFor : Problem → Option (List ℕ) → List ℕ → Verdict → Type 0
EndsFor p last bytes verdict =
    ((length bytes ≤ certificate_limit) × IsAtEnd last × Why p bytes verdict)
    ⊎ ((length bytes ≡ certificate_limit + 1) × (verdict ≡ too_long))

-- bytes were read from what was left first to what is left last, and the verdict ends their check
pub record EndsOver (p : Problem) (first last : Option (List ℕ)) (verdict : Verdict) : Type 0 where
  pub bytes : List ℕ
  pub read : Consumes first last bytes
  pub ends : EndsFor p last bytes verdict
