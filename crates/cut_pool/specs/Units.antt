-- Totals and loads of cuts for one unit of their parts, stored beside the whole ones.
use Rattle.std.specs.Prelude.{◌≡◌, ℕ, ◌/◌, nat_eq, if◌then◌else◌, List, [], map}
use Rattle.cut_pool.specs.Entries.{Entry, entry_part, unit_totals}

-- a total and a row of loads for each cut, and how many more can be added for certain
pub record Units : Type 0 where
  pub totals : List ℕ
  pub rows : List (List ℕ)
  pub spare : ℕ

-- the stored loads for one unit of a cut's part, rounded down; none for the part 1, where they are the whole ones
abbrev pub kept_row : ℕ → List ℕ → List ℕ
kept_row part loads = if nat_eq part 1 then [] else map (λ u. u / part) loads

-- these are the totals and the rows of entries
pub record AreUnits (entries : List Entry) (u : Units) : Type 0 where
  pub totals : u.totals ≡ unit_totals entries
  pub rows : u.rows ≡ map (λ e. kept_row (entry_part e) e.loads) entries
