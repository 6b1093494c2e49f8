-- The bytes that have come, the items that were given, and the scan that they leave.
use Rattle.std.specs.Prelude.{◌≡◌, ℕ, ◌+◌, ◌-◌, ◌^◌, ◌<◌, ◌↔◌, List, length, count_by, nat_eq, Option, None, IfSome, ◌⊎◌}
use Rattle.cert_spec.specs.Stated.{Stated}
use Rattle.cert_spec.specs.Text.{Spells}
use Rattle.cert_spec.specs.Grammar.{TextFault, bad_line, ended, IsTextFault}
use Rattle.cert_scan.specs.Scans.{new_scan, scanned, given_all}
use Rattle.cert_scan.specs.declared.items.Item.{Item}
use Rattle.cert_scan.specs.declared.items.Fault.{Fault}
use Rattle.cert_scan.specs.declared.items.Fault.TheVariants.{BadLine, Ended}
use Rattle.cert_scan.specs.declared.bytes.Position.TheVariants.{Spoiled, Failed}
use Rattle.cert_scan.specs.declared.scanner.Scan.{Scan}

-- a new scan that takes these bytes gives these items, and becomes this one
pub record HasScanned (bytes : List ℕ) (given : List Item) (scan : Scan) : Type 0 where
  pub reached : scanned new_scan bytes ≡ scan
  pub gives : given_all new_scan bytes ≡ given

-- a line was not as wanted
abbrev pub IsLost : Scan → Type 0
IsLost scan = (scan.position ≡ Spoiled) ⊎ (scan.position ≡ Failed)

-- so many bytes that their lines can be counted
abbrev pub AreCountable : List ℕ → Type 0
AreCountable bytes = length bytes < 2 ^ 64 - 1

-- the fault in the words of the grammar
abbrev pub fault_of : Fault → TextFault
fault_of (BadLine line) = bad_line line
fault_of (Ended line) = ended line

-- there is no fault just where the bytes spell a certificate, and a fault is the grammar's
pub record Tells (bytes : List ℕ) (fault : Option Fault) : Type 0 where
  pub whole : (fault ≡ None) ↔ ((k : Stated) × Spells bytes k)
  pub of_grammar : IfSome fault (λ f. IsTextFault bytes (fault_of f))

-- how many line feeds the bytes have
abbrev pub line_feeds : List ℕ → ℕ
line_feeds bytes = count_by (λ b. nat_eq b 10) bytes

-- the number of the line in which the next byte stands, one more than the line feeds so far, as long as no line was
-- bad, and once one was, that of the bad line
pub record IsLineAtHand (bytes : List ℕ) (line : ℕ) : Type 0 where
  pub good : ((bad : ℕ) → IsTextFault bytes (bad_line bad) → ⊥) → line ≡ line_feeds bytes + 1
  pub bad : (bad : ℕ) → IsTextFault bytes (bad_line bad) → line ≡ bad
