-- What the tables of a cut hold.
use Rattle.std.specs.Prelude.{◌≡◌, ◌*◌, ◌≤◌, length, vec_len, vec_capacity}
use Rattle.unit_duals.specs.Cells.{IsTable}
use Rattle.unit_duals.specs.Limits.{most_room}
use Rattle.unit_duals.specs.Lengths.{UnitLegs, AreLegs, stops, trunk_leg}
use Rattle.unit_duals.specs.Values.{back_leg}
use Rattle.unit_duals.specs.Nearness.{AreNearLists, IsNoShorterForth, IsNoShorterHome}
use Rattle.unit_duals.specs.declared.tables.Tables.TheInside.{Inside}

-- the legs that the tables are made of
abbrev pub table_legs : Inside → UnitLegs
table_legs s = record { size = s.size; count = s.count; hubs = s.hubs; trunk = s.trunk.items; last = s.last.items }

-- there is room for so many destinations and stops
pub record HasRoom (s : Inside) : Type 0 where
  pub room_limit : s.room ≤ most_room
  pub trunk_room : s.room * s.room ≤ vec_capacity s.trunk
  pub turned_room : s.room * s.room ≤ vec_capacity s.turned
  pub last_room : s.room * s.room ≤ vec_capacity s.last
  pub back_room : s.room * s.room ≤ vec_capacity s.back
  pub straight_room : s.room ≤ vec_capacity s.straight
  pub column_room : s.room ≤ vec_capacity s.column
  pub forth_starts : vec_len s.forth.starts ≡ s.room * s.room
  pub forth_nodes : s.room * s.room * s.room ≤ 2 * vec_len s.forth.nodes
  pub home_starts : vec_len s.home.starts ≡ s.room * s.room
  pub home_nodes : s.room * s.room * s.room ≤ 2 * vec_len s.home.nodes

-- the parts are made of these legs: the trunk legs turned, the least lengths by a hub, and the near lists
pub record AreMadeOf (l : UnitLegs) (s : Inside) : Type 0 where
  pub size_within : l.size ≤ s.room
  pub stops_within : stops l ≤ s.room
  pub legs : AreLegs l
  pub turned_long : length s.turned.items ≡ stops l * stops l
  pub turned : IsTable (stops l) (λ k m v. v ≡ trunk_leg l m k) s.turned.items (length s.turned.items)
  pub back_long : length s.back.items ≡ stops l * l.size
  pub back : IsTable l.size (λ k j v. v ≡ back_leg l k j) s.back.items (length s.back.items)
  pub forth : AreNearLists l.size l.count (IsNoShorterForth l) l.count s.forth.starts.items s.forth.nodes.items
  pub home : AreNearLists l.size l.count (IsNoShorterHome l) l.count s.home.starts.items s.home.nodes.items

-- the parts have their room, and are made of the legs that they hold
pub record AreTableParts (s : Inside) : Type 0 where
  pub room : HasRoom s
  pub made : AreMadeOf (table_legs s) s
