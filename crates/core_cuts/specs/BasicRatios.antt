-- The basic solution of a table as ratios, and what is read of them.
use Rattle.std.specs.Prelude.{◌≡◌, ℕ, ◌*◌, ◌/◌, ◌%◌, ◌<◌, ◌≤◌, List, length, map, drop, slice_index, slice_index_or, All, pos}
use Rattle.hub_spec.specs.Problem.{Problem}
use Rattle.frac_rows.specs.Rows.{Table, number, row_at, right_side}
use Rattle.core_cuts.specs.declared.ratios.Ratio.{Ratio}
use Rattle.core_cuts.specs.Readings.{Reading, IsWhole, most_units}

-- what the basic solution says of the variable: its row's right side over its number there; what has no row is 0
pub record IsRatio (t : Table) (j : ℕ) (r : Ratio) : Type 0 where
  pub some : 1 ≤ r.over
  pub basic : (i : ℕ) → i < length t.basis → slice_index t.basis i ≡ j
      → (number (row_at t i) j ≡ pos r.over) × (right_side (row_at t i) ≡ pos r.right)
  pub others : ((i : ℕ) → i < length t.basis → slice_index t.basis i ≡ j → ⊥) → r.right ≡ 0

-- the ratios of the first n variables
pub record AreRatios (t : Table) (n : ℕ) (rs : List Ratio) : Type 0 where
  pub one_each : length rs ≡ n
  pub each : (j : ℕ) (d : Ratio) → j < n → IsRatio t j (slice_index_or rs j d)

-- what the first n rows say of the variables; what none of them has is 0
pub record AreNoted (t : Table) (n : ℕ) (rs : List Ratio) : Type 0 where
  pub some : (i : ℕ) (d : Ratio) → i < n → slice_index t.basis i < length rs → 1 ≤ (slice_index_or rs (slice_index t.basis i) d).over
  pub over : (i : ℕ) (d : Ratio) → i < n → slice_index t.basis i < length rs
      → number (row_at t i) (slice_index t.basis i) ≡ pos (slice_index_or rs (slice_index t.basis i) d).over
  pub right : (i : ℕ) (d : Ratio) → i < n → slice_index t.basis i < length rs
      → right_side (row_at t i) ≡ pos (slice_index_or rs (slice_index t.basis i) d).right
  pub others : (j : ℕ) (d : Ratio) → j < length rs → ((i : ℕ) → i < n → slice_index t.basis i ≡ j → ⊥)
      → slice_index_or rs j d ≡ record { right = 0; over = 1 }

-- the ratio times the part is whole; and what it is
abbrev pub IsWholeAt : ℕ → Ratio → Type 0
IsWholeAt e r = e * r.right % r.over ≡ 0

abbrev pub whole_at : ℕ → Ratio → ℕ
whole_at e r = e * r.right / r.over

-- the least part that makes all of them whole
pub record IsLeastPart (rs : List Ratio) (e : ℕ) : Type 0 where
  pub some : 1 ≤ e
  pub whole : All (IsWholeAt e) rs
  pub least : (f : ℕ) → 1 ≤ f → All (IsWholeAt f) rs → e ≤ f

-- what they say with this part: first the price, then the values
abbrev pub nothing : Ratio
nothing = record { right = 0; over = 1 }

unfoldable pub reading_at : ℕ → List Ratio → Reading
reading_at e rs = record { part = e; price = whole_at e (slice_index_or rs 0 nothing); values = map (whole_at e) (drop 1 rs) }

-- of the readings of a table the one with the least part
pub record IsLeastReading (p : Problem) (t : Table) (r : Reading) : Type 0 where
  pub whole : IsWhole p t r
  pub least : (other : Reading) → IsWhole p t other → r.part ≤ other.part

-- price and values are within their limit
pub record IsWithinUnits (r : Reading) : Type 0 where
  pub price : r.price ≤ most_units
  pub values : All (λ v. v ≤ most_units) r.values
