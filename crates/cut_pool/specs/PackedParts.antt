-- What packed values stand for.
use Rattle.std.specs.Prelude.{◌≡◌, ◌*◌, ◌≤◌, length}
use Rattle.hub_spec.specs.Limits.{most_nodes}
use Rattle.cut_model.specs.ValueRows.{ValueRows}
use Rattle.cut_pool.specs.Packed.{all_unpacked}
use Rattle.cut_pool.specs.declared.packed.PackedValues.TheInside.{Inside}

-- the rows of one origin after those of another
abbrev pub packed_rows : Inside → ValueRows
packed_rows s = record {
  size = s.size;
  places = s.places;
  unit = s.unit;
  offset = s.offset;
  items = all_unpacked (s.size * s.places) s.origins.items;
}

-- a list of items for each origin
pub record ArePackedRows (s : Inside) : Type 0 where
  pub size_limit : s.size ≤ most_nodes
  pub places_limit : s.places ≤ most_nodes
  pub origins : length s.origins.items ≡ s.size
