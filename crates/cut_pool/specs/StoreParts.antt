-- What the columns of a store stand for.
use Rattle.std.specs.Prelude.{◌≡◌, ℕ, ◌-◌, min, length, map, Vec, vec_len, vec_capacity}
use Rattle.cut_pool.specs.Kept.{KeptList, Stored, kept_of, kept_part}
use Rattle.cut_pool.specs.declared.store.CutStore.TheInside.{Inside}

-- the cuts and their sums
abbrev pub list_of : Inside → KeptList
list_of s = record {
  cuts = map kept_of s.cuts.items;
  totals = s.totals.items;
  loads = map (λ v. v.items) s.loads.items;
}

-- how many more items have a place
abbrev pub free : {X Z : Type 0} → Vec X Z → ℕ
free v = vec_capacity v - vec_len v

-- with how many more cuts have a place in each column
abbrev pub stored_of : Inside → Stored
stored_of s = record { kept = list_of s; spare = min (min (min (free s.cuts) (free s.parts)) (free s.totals)) (free s.loads) }

-- the part of each cut, and as many totals and rows of loads as cuts
pub record AreColumns (s : Inside) : Type 0 where
  pub parts : s.parts.items ≡ map kept_part (map kept_of s.cuts.items)
  pub totals : length s.totals.items ≡ length s.cuts.items
  pub loads : length s.loads.items ≡ length s.cuts.items
