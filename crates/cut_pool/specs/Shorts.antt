-- The loads of cuts in 32 bits, node by node.
use Rattle.std.specs.Prelude.{◌≡◌, ℕ, ◌-◌, ◌/◌, ◌^◌, ◌<◌, ◌≤◌, List, [], ◌∷◌, ◌++◌, Bool, false, Option, Some, length, map, slice_index, slice_index_or}
use Rattle.cut_pool.specs.Entries.{Entry, entry_part}

-- how often each load is halved, and for each node a row with the halved loads of the cuts
pub record Shorts : Type 0 where
  pub halvings : ℕ
  pub rows : List (List ℕ)

-- the loads of an entry for one unit of its cut's part, rounded down
abbrev pub unit_row : Entry → List ℕ
unit_row e = map (λ u. u / entry_part e) e.loads

-- each row has these loads of its node, halved so often and rounded down
pub record AreShortLoads (entries : List Entry) (s : Shorts) : Type 0 where
  pub row : (k : ℕ) → k < length s.rows → slice_index_or s.rows k [] ≡ map (λ e. slice_index (unit_row e) k / 2 ^ s.halvings) entries

-- the same where the loads may not be stored
abbrev pub AreShortIfKept : List Entry → Option Shorts → Type 0
AreShortIfKept entries kept = (s : Shorts) → kept ≡ Some s → AreShortLoads entries s

-- ---- a cut added

-- the least number of halvings, from `least` on, that brings the load to 31 bits
pub record IsRaised (load least halvings : ℕ) : Type 0 where
  pub few : halvings ≤ 97
  pub above : least ≤ halvings
  pub fits : load / 2 ^ halvings < 2 ^ 31
  pub first : (h : ℕ) → least ≤ h → h < halvings → 2 ^ 31 ≤ load / 2 ^ h

-- rows with no number are added, if any, and only for the first cut
pub record IsStarted (is_first : Bool) (s t : Shorts) : Type 0 where
  pub halvings : t.halvings ≡ s.halvings
  pub row : (k : ℕ) → slice_index_or t.rows k [] ≡ slice_index_or s.rows k []
  pub later : is_first ≡ false → t.rows ≡ s.rows

-- each row has the load of its node more, after all halvings, and the numbers before it are halved `more` times
pub record ArePushed (more halvings : ℕ) (before after : List (List ℕ)) (loads : List ℕ) : Type 0 where
  pub row : (k : ℕ) → k < length after → slice_index_or after k []
      ≡ map (λ x. x / 2 ^ more) (slice_index_or before k []) ++ slice_index loads k / 2 ^ halvings ∷ []

-- a cut with these loads is added to the rows
pub record IsWith (s t : Shorts) (loads : List ℕ) : Type 0 where
  pub long : length t.rows ≡ length s.rows
  pub above : s.halvings ≤ t.halvings
  pub pushed : ArePushed (t.halvings - s.halvings) t.halvings s.rows t.rows loads

-- the same where rows may be made for the first cut
pub record IsWithCut (kept : Option Shorts) (is_first : Bool) (t : Shorts) (loads : List ℕ) : Type 0 where
  pub s : Shorts
  pub was_kept : kept ≡ Some s
  pub later : is_first ≡ false → length t.rows ≡ length s.rows
  pub above : s.halvings ≤ t.halvings
  pub pushed : ArePushed (t.halvings - s.halvings) t.halvings s.rows t.rows loads
