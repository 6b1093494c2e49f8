-- How a number in units of 10^-places is written out.
use Rattle.std.specs.Prelude.{ℕ, ◌-◌, ◌/◌, ◌%◌, ◌^◌, List, ◌∷◌, ◌++◌, length, replicate, decimal}

-- the digits of the number, behind zeros to the given width
abbrev pub zero_padded : ℕ → ℕ → List ℕ
zero_padded width number = replicate (width - length (decimal number)) 48 ++ decimal number

-- the whole part, a point, and exactly `places` decimals
unfoldable pub fixed_text : ℕ → ℕ → List ℕ
fixed_text places value = decimal (value / 10 ^ places) ++ (46 ∷ zero_padded places (value % 10 ^ places))
