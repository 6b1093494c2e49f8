-- A certificate that is read for a problem, and tested.
use Rattle.std.specs.Prelude.{◌≡◌, ℕ, ◌<◌, ◌≤◌, List, [], ◌∷◌, length, Result, Ok, Err}
use Rattle.hub_spec.specs.Problem.{Problem}
use Rattle.hub_spec.specs.Certificates.{HasCutsOf}
use Rattle.cert_spec.specs.Stated.{Stated, IsStatedOf}
use Rattle.cert_spec.specs.Text.{Spells}
use Rattle.cert_spec.specs.Conditions.{Claim, claim, Size, FailsFirst, conditions, older_conditions}
use Rattle.cert_spec.specs.Grammar.{IsTextFault, bad_line, ended}
use Rattle.cert_spec.specs.Verdicts.{certificate_limit, Older, serves, serves_not, unread, over_limit}
use Rattle.cert_conditions.specs.Kinds.{kind_of}
use Rattle.cert_checker.specs.Answers.{IsOfSize}
use Rattle.cert_checker.specs.declared.tested.Tested as asked
use Rattle.cert_checker.specs.declared.verdicts.Ending.{Ending}
use Rattle.cert_checker.specs.declared.verdicts.Ending.TheVariants.{No, BadLine, Ended, TooLong}

-- the condition of the second line
abbrev pub size_claim : Problem → Stated → Claim
size_claim p k = claim Size 2 (IsOfSize p k.proof)

-- What is said of the bytes of an older certificate of which only the text and the size are tested: they serve where
-- they spell a certificate of the problem's size.
abbrev pub IsSized : Problem → List ℕ → Older → Type 0
IsSized p bytes (serves k) = (length bytes ≤ certificate_limit) × Spells bytes k × IsOfSize p k.proof
IsSized p bytes (serves_not kind line) =
    (length bytes ≤ certificate_limit) × ((k : Stated) × Spells bytes k × FailsFirst (size_claim p k ∷ []) kind line)
IsSized p bytes (unread fault) = (length bytes ≤ certificate_limit) × IsTextFault bytes fault
IsSized p bytes over_limit = certificate_limit < length bytes

-- the conditions that are tested
abbrev pub tests : asked.Tested → Problem → Stated → List Claim
tests asked.TheVariants.Whole p k = conditions p k
tests asked.TheVariants.Cuts p k = older_conditions p k
tests asked.TheVariants.Size p k = size_claim p k ∷ []

-- what holds of a certificate where none of them fails
abbrev pub Passes : asked.Tested → Problem → Stated → Type 0
Passes asked.TheVariants.Whole p k = IsStatedOf p k
Passes asked.TheVariants.Cuts p k = HasCutsOf p k.proof
Passes asked.TheVariants.Size p k = IsOfSize p k.proof

-- the bytes spell the certificate, of which that holds; or the ending tells why they do not
abbrev pub IsReadAs : Problem → asked.Tested → List ℕ → Result Stated Ending → Type 0
IsReadAs p tested bytes (Ok k) = (length bytes ≤ certificate_limit) × Spells bytes k × Passes tested p k
IsReadAs p tested bytes (Err (No kind line)) =
    (length bytes ≤ certificate_limit) × ((k : Stated) × Spells bytes k × FailsFirst (tests tested p k) (kind_of kind) line)
IsReadAs p tested bytes (Err (BadLine line)) = (length bytes ≤ certificate_limit) × IsTextFault bytes (bad_line line)
IsReadAs p tested bytes (Err (Ended line)) = (length bytes ≤ certificate_limit) × IsTextFault bytes (ended line)
IsReadAs p tested bytes (Err TooLong) = certificate_limit < length bytes
IsReadAs p tested bytes (Err other) = ⊥
