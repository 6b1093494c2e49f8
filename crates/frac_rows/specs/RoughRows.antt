-- Rough rows, what their sums of products tell, and which variable is the first with a number below 0.
use Rattle.std.specs.Prelude.{◌≡◌, ℕ, ◌+◌, ◌-◌, ◌^◌, ◌<◌, ◌≤◌, Bool, true, false, length, sum, List, Option, IfSome, ℤ, pos, ◌-ℤ◌, ◌*ℤ◌, ◌≤ℤ◌, unsigned_abs}
use Rattle.std.specs.Int.{is_negative}
use Rattle.frac_rows.specs.Rows.{widest, number, AreNarrow}
use Rattle.frac_rows.specs.Stored.{columns_of, dot, extended, reach, standing, AreColumns}
use Rattle.frac_rows.specs.declared.rough_rows.RoughRow.{RoughRow}
use Rattle.frac_rows.specs.declared.whole_rows.WholeRow.{WholeRow}

-- how far, in steps, a rough sum is at most off: the tops together, where the rows are few and the tops small together
pub record IsMargin (height : ℕ) (tops : List ℕ) (margin : ℤ) : Type 0 where
  pub few_rows : height ≤ 256
  pub is_sum : margin ≡ pos (sum tops)
  pub small : sum tops ≤ 2 ^ 30

-- columns, and the margin of their rough sums, if they have one
pub record AreSummed (height variables : ℕ) (numbers : List ℤ) (tops : List ℕ) (margin : Option ℤ) : Type 0 where
  pub columns : AreColumns height variables numbers tops
  pub is_margin : IfSome margin (IsMargin height tops)

-- the first numbers of the row are about d times those of the rough row
pub record IsRough (d : ℕ) (row rough : List ℤ) : Type 0 where
  pub near : (k : ℕ) → k < length rough → unsigned_abs (number row k -ℤ pos d *ℤ number rough k) ≤ d

-- the columns are such, and no number that is kept of the row is too great
pub record IsKeptRow (w : WholeRow) : Type 0 where
  pub columns : AreColumns (length w.row.now - 1) w.variables w.numbers.now w.tops.now
  pub narrow : AreNarrow w.row.now

-- the columns are such, with a constraint, and no number of the whole row is too great
pub record IsWholeRow (w : WholeRow) : Type 0 where
  pub some : 2 ≤ length w.row.now
  pub columns : AreColumns (length w.row.now - 1) w.variables w.numbers.now w.tops.now
  pub narrow : AreNarrow (extended (columns_of (length w.row.now - 1) w.variables w.numbers.now) w.row.now)

-- the rough row is of the row, with the margin of its tops, and its sums fit 32 bits
pub record IsRoughOf (w : WholeRow) (r : RoughRow) : Type 0 where
  pub margin : IsMargin (length w.row.now - 1) w.tops.now r.margin
  pub long : length r.numbers.now ≡ length w.tops.now
  pub rough : IsRough r.step w.row.now r.numbers.now
  pub within : reach r.numbers.now w.tops.now < 2 ^ 31
  pub step : 1 ≤ r.step

-- the row's number for the variable j
abbrev pub number_of : ℕ → List ℤ → List ℤ → ℕ → ℤ
number_of variables numbers row j = dot row (standing numbers variables (length row - 1) j)

-- whether it is below 0
abbrev pub is_below : ℕ → List ℤ → List ℤ → ℕ → Bool
is_below variables numbers row j = is_negative (number_of variables numbers row j)

-- none of these variables has a number below 0
pub record NoneBelow (variables : ℕ) (numbers row : List ℤ) (first last : ℕ) : Type 0 where
  pub each : (j : ℕ) → first ≤ j → j < last → is_below variables numbers row j ≡ false

-- the variable j is the first of them that has one
pub record IsFirstBelow (variables : ℕ) (numbers row : List ℤ) (first last j : ℕ) : Type 0 where
  pub among : first ≤ j
  pub within : j < last
  pub before : NoneBelow variables numbers row first j
  pub here : is_below variables numbers row j ≡ true

-- a sum that is at least the margin rules out that its variable's number is below 0
pub record AreTelling (variables : ℕ) (numbers row : List ℤ) (margin : ℤ) (first : ℕ) (sums : List ℤ) : Type 0 where
  pub each : (l : ℕ) → l < length sums → margin ≤ℤ number sums l → is_below variables numbers row (first + l) ≡ false

-- none of these variables has a number that is too great
pub record NoneWide (variables : ℕ) (numbers row : List ℤ) (first last : ℕ) : Type 0 where
  pub each : (j : ℕ) → first ≤ j → j < last → unsigned_abs (number_of variables numbers row j) ≤ widest

-- one of the variables has one
pub record SomeWide (variables : ℕ) (numbers row : List ℤ) : Type 0 where
  pub j : ℕ
  pub within : j < variables
  pub wide : widest < unsigned_abs (number_of variables numbers row j)

-- a sum that is with the margin at most so great rules out that its variable's number is too great
pub record AreTellingSizes (variables : ℕ) (numbers row : List ℤ) (margin most first : ℕ) (sums : List ℤ) : Type 0 where
  pub each : (l : ℕ) → l < length sums → unsigned_abs (number sums l) + margin ≤ most
      → unsigned_abs (number_of variables numbers row (first + l)) ≤ widest
