-- How far a text was read.
use Rattle.std.specs.Prelude.{◌≡◌, ℕ, List}
use Rattle.cert_scan.specs.Given.{IsGiven}
use Rattle.cert_scan.specs.Scanned.{HasScanned}
use Rattle.cert_scan.specs.declared.items.Item.{Item}
use Rattle.cert_scan.specs.declared.scanner.Scan.{Scan}
use Rattle.cert_format.specs.Gathered.{at_start, taken_all}
use Rattle.cert_format.specs.Gatherings.{standing_of}
use Rattle.cert_format.specs.declared.gathering.Gathering.{Gathering}

-- the bytes were scanned, and the items that they gave were taken in
pub record HasRead (front : List ℕ) (scan : Scan) (gathering : Gathering) : Type 0 where
  pub given : List Item
  pub scanned : HasScanned front given scan
  pub in_order : IsGiven given
  pub gathered : standing_of gathering ≡ taken_all at_start given
