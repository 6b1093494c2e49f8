-- The fields of a pool.
use Rattle.std.specs.Prelude.{◌≡◌, ℕ, ◌-◌, ◌≤◌, min, length}
use Rattle.cut_pool.specs.StoreParts.{free}
use Rattle.cut_pool.specs.Entries.{PoolState, most_stated}
use Rattle.cut_pool.specs.PoolCuts.{most_kept, sets_of, entries_of, AreDistinct}
use Rattle.cut_pool.specs.Ordered.{IsIndex}
use Rattle.cut_pool.specs.Shorts.{AreShortIfKept}
use Rattle.cut_pool.specs.Units.{AreUnits}
use Rattle.cut_pool.specs.declared.pool.Pool.TheInside.{Inside}

-- how many more cuts have a number, and a place in the store, in the index and among the sums for one unit
abbrev pub spare_of : Inside → ℕ
spare_of s = min (most_kept - length s.cuts.kept.cuts) (min s.cuts.spare (min (free s.by_set) s.units.spare))

-- what a pool is seen as
abbrev pub state_of : Inside → PoolState
state_of s = record {
  entries = entries_of s.cuts.kept.cuts s.cuts.kept.totals s.cuts.kept.loads;
  spare = spare_of s;
}

-- each cut has its sums, no set is there twice, and the index has each set. The loads in 32 bits and the sums for one
-- unit are those of the entries. So is the greatest load of a cut that is stored with its duals
pub record IsPool (s : Inside) : Type 0 where
  pub most : length s.cuts.kept.cuts ≤ most_kept
  pub totals : length s.cuts.kept.totals ≡ length s.cuts.kept.cuts
  pub loads : length s.cuts.kept.loads ≡ length s.cuts.kept.cuts
  pub distinct : AreDistinct (sets_of s.cuts.kept.cuts)
  pub index : IsIndex (sets_of s.cuts.kept.cuts) s.by_set.items
  pub short : AreShortIfKept (state_of s).entries s.short
  pub units : AreUnits (state_of s).entries s.units
  pub greatest : s.most_load ≡ most_stated (state_of s).entries
