-- The route ends in the workspace, each from a hub by a last hub to a destination.
use Rattle.std.specs.Prelude.{◌≡◌, ◌*◌, ◌≤◌, length, vec_capacity}
use Rattle.unit_duals.specs.Limits.{most_room}
use Rattle.unit_duals.specs.Lengths.{UnitLegs, AreLegs}
use Rattle.unit_duals.specs.Hops.{AreBestHops, AreHopLengths}
use Rattle.unit_duals.specs.declared.hops.Hops.TheInside.{Inside}

-- the legs that they were found in
abbrev pub hop_legs : Inside → UnitLegs
hop_legs s = record { size = s.size; count = s.count; hubs = s.hubs; trunk = s.trunk.items; last = s.last.items }

-- there is room for so many destinations and stops
pub record HasHopRoom (s : Inside) : Type 0 where
  pub room_limit : s.room ≤ most_room
  pub trunk_room : s.room * s.room ≤ vec_capacity s.trunk
  pub last_room : s.room * s.room ≤ vec_capacity s.last
  pub lasts_room : s.room * s.room ≤ vec_capacity s.lasts
  pub lengths_room : s.room * s.room ≤ vec_capacity s.lengths

-- for each hub and destination: the first of the best last hubs, and the length by it
pub record AreHopsOf (l : UnitLegs) (s : Inside) : Type 0 where
  pub legs : AreLegs l
  pub lasts_long : length s.lasts.items ≡ l.hubs * l.size
  pub lasts : AreBestHops l s.lasts.items
  pub lengths_long : length s.lengths.items ≡ l.hubs * l.size
  pub lengths : AreHopLengths l s.lengths.items

-- the parts have their room, and are found in the legs that they hold
pub record AreHopParts (s : Inside) : Type 0 where
  pub room : HasHopRoom s
  pub found : AreHopsOf (hop_legs s) s
