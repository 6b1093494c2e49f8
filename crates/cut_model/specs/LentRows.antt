-- The values as they are borrowed.
use Rattle.std.specs.Prelude.{◌≡◌, ◌*◌, ◌≤◌, length}
use Rattle.hub_spec.specs.Limits.{most_nodes}
use Rattle.cut_model.specs.ValueRows.{ValueRows}
use Rattle.cut_model.specs.declared.value_rows.Values.TheInside.{Inside}

-- the rows that the fields stand for
abbrev pub lent_rows : Inside → ValueRows
lent_rows s = record { size = s.size; places = s.places; unit = s.unit; offset = s.offset; items = s.items.now }

-- a row for each commodity
pub record AreLentRows (s : Inside) : Type 0 where
  pub size_limit : s.size ≤ most_nodes
  pub places_limit : s.places ≤ most_nodes
  pub long : length s.items.now ≡ s.size * s.size * s.places
