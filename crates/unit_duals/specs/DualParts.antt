-- The room of the duals of one origin.
use Rattle.std.specs.Prelude.{◌*◌, ◌≤◌, vec_capacity}
use Rattle.unit_duals.specs.Limits.{most_room}
use Rattle.unit_duals.specs.declared.duals.UnitDuals.TheInside.{Inside}

-- there is room for so many destinations and stops
pub record HasDualRoom (s : Inside) : Type 0 where
  pub room_limit : s.room ≤ most_room
  pub prices : s.room ≤ vec_capacity s.prices
  pub reach : s.room ≤ vec_capacity s.reach
  pub slack : s.room * s.room ≤ vec_capacity s.slack
  pub rest : s.room * s.room ≤ vec_capacity s.rest
  pub values : s.room * s.room ≤ vec_capacity s.values
