-- The versions of a text, and their numbers.
use Rattle.std.specs.Prelude.{ℕ, nat_eq, if◌then◌else◌}
use Rattle.cert_spec.specs.Text.{is_first}
use Rattle.cert_scan.specs.declared.items.Version.{Version}
use Rattle.cert_scan.specs.declared.items.Version.TheVariants.{First, Second, Third}

-- the number that the text has for a version
abbrev pub version_number : Version → ℕ
version_number First = 1
version_number Second = 2
version_number Third = 3

-- the version of a number
abbrev pub version_of : ℕ → Version
version_of v = if is_first v then First else (if nat_eq v 2 then Second else Third)
