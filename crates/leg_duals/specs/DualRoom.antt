-- The room of the duals of one origin.
use Rattle.std.specs.Prelude.{◌≡◌, ◌*◌, ◌≤◌, vec_capacity}
use Rattle.unit_duals.specs.Limits.{most_room}
use Rattle.leg_duals.specs.declared.duals.LimitedDuals.TheInside.{Inside}

-- there is room for so many destinations and stops
pub record HasDualRoom (s : Inside) : Type 0 where
  pub room_limit : s.room ≤ most_room
  pub reaches : s.reaches.room ≡ s.room
  pub prices : s.room ≤ vec_capacity s.prices
  pub least : s.room ≤ vec_capacity s.least
  pub values : s.room * s.room ≤ vec_capacity s.values
