-- What the duals of one origin are worked out in.
use Rattle.std.specs.Prelude.{◌≡◌, if◌then◌else◌}
use Rattle.unit_duals.specs.LeastValues.{OriginDuals}
use Rattle.pareto_cuts.specs.declared.origins.OriginScratch.TheInside.{Inside}

-- the duals that were worked out last
abbrev pub held_duals : Inside → OriginDuals
held_duals s = record {
  room = s.first.room;
  prices = if s.is_limited then s.limited.prices else s.unit.prices;
  values = if s.is_limited then s.limited.values else s.unit.values;
}

-- there is as much room in each part
pub record HasOriginRoom (s : Inside) : Type 0 where
  pub unit : s.unit.room ≡ s.first.room
  pub limited : s.limited.room ≡ s.first.room
