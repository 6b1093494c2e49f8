-- A stream as the bytes that were fed make it.
use Rattle.std.specs.Prelude.{◌≡◌, ℕ, ◌+◌, ◌<◌, Bool, true, false, List, [], ◌∷◌, ◌++◌, length, flat_map, Contains}
use Rattle.cert_spec.specs.Verdicts.{certificate_limit}
use Rattle.cert_spec.specs.Lines.{Item as Line, says_cut, says_marked, says_nodes}
use Rattle.cert_spec.specs.Text.{line_bytes}
use Rattle.cert_spec.specs.Grammar.{Stage, want_version, Leads}
use Rattle.cert_scan.specs.Scanned.{HasScanned}
use Rattle.cert_scan.specs.declared.items.Item.{Item}
use Rattle.cert_conditions.specs.Steps.{IsCut}
use Rattle.cert_conditions.specs.Taken.{HasTaken}
use Rattle.cert_spec.specs.Stated.{Stated}
use Rattle.cert_spec.specs.Conditions.{AllHold, FailsFirst, conditions}
use Rattle.hub_spec.specs.Problem.{Problem}
use Rattle.cert_conditions.specs.Kinds.{kind_of}
use Rattle.cert_checker.specs.declared.verdicts.Ending.{Ending}
use Rattle.cert_checker.specs.declared.verdicts.Ending.TheVariants.{Optimal, Bounds, No}
use Rattle.cert_checker.specs.declared.streams.Stream.{Stream}

-- the scan has taken these bytes, and the check the items that they gave
pub record HasCome (bytes : List ℕ) (given : List Item) (s : Stream) : Type 0 where
  pub scanned : HasScanned bytes given s.scan
  pub taken : HasTaken given s.checks

-- these bytes came, or else they are too many
abbrev pub HasFedUnless : Bool → List ℕ → Stream → Type 0
HasFedUnless true bytes s = certificate_limit < length bytes
HasFedUnless false bytes s = (s.room + length bytes ≡ certificate_limit) × ((given : List Item) × HasCome bytes given s)

-- these bytes were fed
abbrev pub HasFed : List ℕ → Stream → Type 0
HasFed bytes s = HasFedUnless s.is_too_long bytes s

-- ---- where memory may be wanting

-- one of the items ends a line that begins a cut
abbrev pub BeginsCut : List Item → Type 0
BeginsCut items = (i : Item) × Contains items i × IsCut i

-- the line begins a cut, marked or not
abbrev pub IsCutLine : Line → Type 0
IsCutLine (says_cut number part) = Unit {0}
IsCutLine (says_marked number part hubs) = Unit {0}
IsCutLine line = ⊥

-- the bytes begin with lines that may stand so from the first on, the last of which is this
pub record HasLine (bytes : List ℕ) (line : Line) : Type 0 where
  pub before : List Line
  pub stage : Stage
  pub rest : List ℕ
  pub lead : Leads want_version (before ++ line ∷ []) stage
  pub text : bytes ≡ flat_map line_bytes (before ++ line ∷ []) ++ rest

-- a line that begins a cut ends with one of the bytes of the piece, which comes behind these bytes
pub record EndsCutLine (bytes piece : List ℕ) : Type 0 where
  pub cut : Line
  pub is_cut : IsCutLine cut
  pub line : HasLine (bytes ++ piece) cut
  pub ends : length line.rest < length piece

-- the line has come that tells how many lines the tree has; no cut begins behind it
abbrev pub HasTreeCount : List ℕ → Type 0
HasTreeCount bytes = (all : ℕ) × HasLine bytes (says_nodes all)

-- ---- how the check of all bytes ends

-- the ending is that of this certificate
abbrev pub EndsAs : Problem → Stated → Ending → Type 0
EndsAs p k (Optimal cost) = AllHold (conditions p k) × (k.proof.bound ≡ k.proof.cost) × (cost ≡ k.proof.cost)
EndsAs p k (Bounds bound cost) =
    AllHold (conditions p k) × (k.proof.bound < k.proof.cost) × (bound ≡ k.proof.bound) × (cost ≡ k.proof.cost)
EndsAs p k (No kind line) = FailsFirst (conditions p k) (kind_of kind) line
EndsAs p k other = ⊥
