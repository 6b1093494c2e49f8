use Rattle.std.proofs.Common.{arith}
use Rattle.leg_duals.proofs.ways.Ways.new.Goals as goal

pub invariant_of-result : goal.invariant_of-result
invariant_of-result c = record {
  ways = record {
    problem = c.longest-most.ensures.problem;
    set = c.requires.set;
    is_order = c.requires.order;
    from = c.requires.origin;
    destinations = c.requires.legs.destinations;
    size_limit = c.requires.legs.legs.size_limit;
    stop_limit = omega (arith, c.requires.legs.legs.stop_limit, c.requires.legs.places, c.requires.legs.hubs_too);
  };
  legs = c.requires.legs;
  firsts = c.requires.first;
  most = c.longest-most.ensures.value;
}
