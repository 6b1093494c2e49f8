-- What the tables of legs hold.
use Rattle.std.specs.Prelude.{◌≡◌, ◌*◌, ◌≤◌, length, vec_capacity}
use Rattle.hub_spec.specs.Problem.{IsProblem, greatest}
use Rattle.unit_duals.specs.Limits.{most_room}
use Rattle.unit_duals.specs.Lengths.{UnitLegs, AreLegs}
use Rattle.hub_model.specs.CandidateLengths.{length_ceiling}
use Rattle.leg_duals.specs.CandidateLegs.{collection_length, trunk_length, delivery_length, IsLegTable}
use Rattle.leg_duals.specs.declared.candidate_legs.CandidateLegs.TheInside.{Inside as CandidateInside}
use Rattle.leg_duals.specs.declared.set_legs.SetLegs.TheInside.{Inside}
use Rattle.leg_duals.specs.declared.first_legs.FirstLegs.TheInside.{Inside as FirstInside}

-- the legs that are held part by part
abbrev pub held_legs : Inside → UnitLegs
held_legs s = record { size = s.size; count = s.count; hubs = s.hubs; trunk = s.trunk.items; last = s.last.items }

-- the legs are within their limits, and there is room for so many destinations and stops
pub record AreLegParts (s : Inside) : Type 0 where
  pub legs : AreLegs (held_legs s)
  pub room_limit : s.room ≤ most_room
  pub trunk_room : s.room * s.room ≤ vec_capacity s.trunk
  pub last_room : s.room * s.room ≤ vec_capacity s.last

-- there is room for so many stops
pub record HasFirstRoom (s : FirstInside) : Type 0 where
  pub room_limit : s.room ≤ most_room
  pub items_room : s.room ≤ vec_capacity s.items

-- the legs by way of candidates are the instance's: a row for each origin, each place and each destination, with the
-- greatest distance and the ceiling of its lengths
pub record AreCandidateLegs (s : CandidateInside) : Type 0 where
  pub problem : IsProblem s.instance.now
  pub places : s.places ≡ length s.instance.now.candidates
  pub farthest : s.farthest ≡ greatest s.instance.now.distances
  pub ceiling : s.ceiling ≡ length_ceiling s.instance.now
  pub collect : IsLegTable s.instance.now.size s.places (collection_length s.instance.now) s.collect.items
  pub trunk : IsLegTable (length s.instance.now.candidates) s.places (trunk_length s.instance.now) s.trunk.items
  pub deliver : IsLegTable s.instance.now.size s.places (delivery_length s.instance.now) s.deliver.items
