-- How the reading of a text begins, and how it ends.
use Rattle.std.proofs.Common.{◌≡◌, ℕ, List, [], Option, Some, None, IfSome, ap, subst, ◌∙◌}
use Rattle.cert_spec.specs.Stated.{Stated, IsStatedInRange}
use Rattle.cert_spec.specs.Text.{Spells}
use Rattle.cert_spec.specs.Grammar.{IsTextFault}
use Rattle.cert_scan.specs.Parts.{items_of}
use Rattle.cert_scan.specs.Scanned.{fault_of, Tells}
use Rattle.cert_scan.specs.declared.items.Fault.{Fault}
use Rattle.cert_scan.specs.declared.items.Fault.TheVariants.{BadLine, Ended}
use Rattle.cert_scan.specs.declared.scanner.Scan.{Scan}
use Rattle.cert_format.specs.Faults.{ToldFault, told_of}
use Rattle.cert_format.specs.Gathered.{Standing, at_start, taken_all, all_gathered}
use Rattle.cert_format.specs.Gatherings.{gathered_of}
use Rattle.cert_format.specs.Readings.{HasRead}
use Rattle.cert_format.specs.declared.gathering.Gathering.{Gathering}
use Rattle.cert_format.proofs.Collecting.{certificate_gathered}

told_fault : (bytes : List ℕ) (f : Fault) → IsTextFault bytes (fault_of f) → ToldFault bytes (told_of f)
told_fault bytes (BadLine line) h = h
told_fault bytes (Ended line) h = h

pub read_faulty : (bytes : List ℕ) (found : Option Fault) (f : Fault) → found ≡ Some f → Tells bytes found → ToldFault bytes (told_of f)
read_faulty bytes found f is t = told_fault bytes f (subst (λ o. IfSome o (λ f. IsTextFault bytes (fault_of f))) is t.of_grammar)

-- the certificate that was read
pub record IsRead (bytes : List ℕ) (gathering : Gathering) : Type 0 where
  pub stated : Stated
  pub in_range : IsStatedInRange stated
  pub gathered : gathered_of gathering ≡ all_gathered stated
  pub spells : Spells bytes stated

pub read_whole : (bytes : List ℕ) (scan : Scan) (gathering : Gathering) (found : Option Fault) (h : HasRead bytes scan gathering) → found ≡ None → Tells bytes found
    → ((k : Stated) → Spells bytes k → h.given ≡ items_of k) → IsRead bytes gathering
read_whole bytes scan gathering found h none t items =
    let k = t.whole.0 none in
    record {
      stated = k.0;
      in_range = k.1.in_range;
      gathered = ap (λ (s : Standing). s.parts) (h.gathered ∙ ap (taken_all at_start) (items k.0 k.1)) ∙ certificate_gathered k.0 k.1.in_range;
      spells = k.1;
    }
