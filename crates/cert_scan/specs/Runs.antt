-- The bytes that a run takes.
use Rattle.std.specs.Prelude.{◌≡◌, ℕ, ◌+◌, ◌-◌, ◌<◌, ◌≤◌, false, List, [], ◌∷◌, length, take, slice_index, Option, Some, None, option_to_list, nat_eq}
use Rattle.cert_scan.specs.Moves.{with_digit_of}
use Rattle.cert_scan.specs.Scans.{scanned, given_all}
use Rattle.cert_scan.specs.declared.items.Item.{Item}
use Rattle.cert_scan.specs.declared.scanner.Scan.{Scan}

-- digits, behind those of the first value, spell the last one
abbrev pub SpellsOn : Option ℕ → List ℕ → Option ℕ → Type 0
SpellsOn value [] last = value ≡ last
SpellsOn value (byte ∷ bytes) last =
    (more : ℕ) × (48 ≤ byte) × (byte ≤ 57) × (with_digit_of value (byte - 48) ≡ Some more) × SpellsOn (Some more) bytes last

-- the bytes go on with a word of which so many letters have come
abbrev pub GoesOn : List ℕ → ℕ → List ℕ → Type 0
GoesOn word matched [] = Unit
GoesOn word matched (byte ∷ bytes) = (matched < length word) × (byte ≡ slice_index word matched) × GoesOn word (matched + 1) bytes

-- none of the bytes ends a line
abbrev pub HasNoLineEnd : List ℕ → Type 0
HasNoLineEnd [] = Unit
HasNoLineEnd (byte ∷ bytes) = (nat_eq byte 10 ≡ false) × HasNoLineEnd bytes

-- some of the bytes were taken one after another, and the last one gave the item, if there is one
pub record Takes (old : Scan) (bytes : List ℕ) (taken : ℕ) (item : Option Item) (new : Scan) : Type 0 where
  pub some : 0 < taken
  pub within : taken ≤ length bytes
  pub after : scanned old (take taken bytes) ≡ new
  pub given : given_all old (take taken bytes) ≡ option_to_list item
  pub nothing_before : given_all old (take (taken - 1) bytes) ≡ []

-- so many of the bytes were taken one after another, and the last one gave the item; all were taken where there is none
pub record Runs (old : Scan) (bytes : List ℕ) (taken : ℕ) (item : Option Item) (new : Scan) : Type 0 where
  pub within : taken ≤ length bytes
  pub after : scanned old (take taken bytes) ≡ new
  pub given : given_all old (take taken bytes) ≡ option_to_list item
  pub nothing_before : given_all old (take (taken - 1) bytes) ≡ []
  pub all : item ≡ None → taken ≡ length bytes
