-- The room of reaches.
use Rattle.std.specs.Prelude.{◌≤◌, vec_capacity}
use Rattle.unit_duals.specs.Limits.{most_room}
use Rattle.leg_duals.specs.declared.reaches.Reaches.TheInside.{Inside}

-- there is room for so many stops
pub record HasReachRoom (s : Inside) : Type 0 where
  pub room_limit : s.room ≤ most_room
  pub by : s.room ≤ vec_capacity s.by
  pub bases : s.room ≤ vec_capacity s.bases
  pub aways : s.room ≤ vec_capacity s.aways
