-- What ways, reaches and duals hold.
use Rattle.std.specs.Prelude.{◌≡◌, ◌+◌, ◌<◌, ◌≤◌}
use Rattle.hub_spec.specs.Problem.{IsProblem}
use Rattle.hub_spec.specs.Plans.{IsHubSet}
use Rattle.hub_spec.specs.Separation.{IsOrder}
use Rattle.unit_duals.specs.Limits.{most_room}
use Rattle.leg_duals.specs.StopLegs.{AreLegsOf, AreFirstLegsOf}
use Rattle.leg_duals.specs.Ways.{WaysFrom, stop_count, longest_way}
use Rattle.leg_duals.specs.declared.ways.Ways.TheInside.{Inside}

-- what is so of all ways
pub record AreWays (w : WaysFrom) : Type 0 where
  pub problem : IsProblem w.problem
  pub set : IsHubSet w.problem w.hubs
  pub is_order : IsOrder w.problem w.hubs w.order
  pub from : w.origin < w.problem.size
  pub destinations : w.start + w.size ≤ w.problem.size
  pub size_limit : w.size ≤ most_room
  pub stop_limit : stop_count w ≤ most_room

-- the parts as they are seen
abbrev pub held_ways : Inside → WaysFrom
held_ways s = record {
  problem = s.instance.now;
  hubs = s.hubs.now;
  order = s.order.now;
  start = s.start;
  size = s.legs.now.size;
  origin = s.origin;
}

-- the legs are those of the hubs, the order and the origin, and the longest way is the instance's
pub record AreWayParts (s : Inside) : Type 0 where
  pub ways : AreWays (held_ways s)
  pub legs : AreLegsOf s.instance.now s.hubs.now s.order.now s.start s.legs.now
  pub firsts : AreFirstLegsOf s.instance.now s.hubs.now s.order.now s.origin s.first.now
  pub most : s.most ≡ longest_way s.instance.now.longest
