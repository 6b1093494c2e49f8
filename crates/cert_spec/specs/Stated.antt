-- What the text of a certificate states: a proof, and the marks of its cuts.
use Rattle.std.specs.Prelude.{◌≡◌, ℕ, nat_eq, if◌then◌else◌, List, length, zip, replicate, All, Option, Some, None, IfSome, ◌⊎◌}
use Rattle.std.specs.List.{AllZip}
use Rattle.hub_spec.specs.Problem.{Problem}
use Rattle.hub_spec.specs.Cuts.{Cut}
use Rattle.hub_spec.specs.Certificates.{Proof, Holds}
use Rattle.hub_spec.specs.Ranges.{IsInRange}
use Rattle.core_spec.specs.CoreCuts.{Mark, IsCoreCut}
use Rattle.core_spec.specs.MarkRanges.{IsMarkInRange}

-- a proof, and of each of its cuts in order the mark, if it has one
pub record Stated : Type 0 where
  pub proof : Proof
  pub marks : List (Option Mark)

-- the proof with no mark
abbrev pub unmarked : Proof → Stated
unmarked k = record { proof = k; marks = replicate (length k.cuts) None }

-- the cuts, each with its mark
abbrev pub cuts_of : Stated → List (Cut × Option Mark)
cuts_of k = zip k.proof.cuts k.marks

-- a version after the first
abbrev pub IsLater : ℕ → Type 0
IsLater version = (version ≡ 2) ⊎ (version ≡ 3)

-- the version is the third
abbrev pub IsThird : ℕ → Type 0
IsThird version = version ≡ 3

-- the third version says of a proof what the second says: the proof as the second says it, if this is the third
abbrev pub as_second : ℕ → ℕ
as_second version = if nat_eq version 3 then 2 else version

abbrev pub in_second : Proof → Proof
in_second k = record k { version = as_second k.version }

-- what is stated is in range; only the third version says marks
pub record IsStatedInRange (k : Stated) : Type 0 where
  pub proof : IsInRange (in_second k.proof)
  pub one_for_each : length k.marks ≡ length k.proof.cuts
  pub marks : All (λ mark. IfSome mark (IsMarkInRange k.proof.size)) k.marks
  pub version : IsThird k.proof.version ⊎ All (λ (mark : Option Mark). mark ≡ None) k.marks

-- the cut is Pareto-optimal by its mark, if it has one
abbrev pub IsAsMarked : Problem → Cut → Option Mark → Type 0
IsAsMarked p cut None = Unit {0}
IsAsMarked p cut (Some mark) = IsCoreCut p cut mark

-- what is stated holds for this problem: the proof, and the marks of its cuts
pub record IsStatedOf (p : Problem) (k : Stated) : Type 0 where
  pub holds : Holds p k.proof
  pub marks : AllZip (IsAsMarked p) k.proof.cuts k.marks
