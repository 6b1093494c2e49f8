-- The fields of the sums of an explicit cut, which is stored with its duals.
use Rattle.std.specs.Prelude.{◌≡◌, ◌/◌}
use Rattle.cut_pool.specs.Entries.{most_unit}
use Rattle.cut_pool.specs.Stated.{PartSums}
use Rattle.cut_pool.specs.Units.{kept_row}
use Rattle.cut_pool.specs.declared.stated_sums.StatedSums.TheInside.{Inside}

-- what they are seen as
abbrev pub sums_of : Inside → PartSums
sums_of s = record { part = s.part; total = s.total; loads = s.loads.items }

-- those for one unit of the part are of the others, rounded down, and the row is that of the loads
pub record AreForOneUnit (s : Inside) : Type 0 where
  pub total : s.unit_total ≡ s.total / s.part
  pub row : s.unit_row.items ≡ kept_row s.part s.loads.items
  pub most : s.most ≡ most_unit s.part s.loads.items
