use Rattle.std.proofs.Common.{refl}
use Rattle.leg_duals.specs.Ways.{stop_count}
use Rattle.leg_duals.specs.Parts.{held_ways}
use Rattle.leg_duals.proofs.WayLegs.{base_of}
use Rattle.leg_duals.proofs.ways.Ways.base.Goals as goal

pub bounds-trunk-k : goal.bounds-trunk-k
bounds-trunk-k c =
    (base_of c.self.inside c.args.self.now c.args.k c.args.m (stop_count (held_ways c.self.inside)) c.trunk.result.now c.self.view_is
    c.self.invariant c.requires.first c.requires.last refl c.trunk.ensures.value).within

pub returns-clause-value : goal.returns-clause-value
returns-clause-value c =
    (base_of c.self.inside c.args.self.now c.args.k c.args.m (stop_count (held_ways c.self.inside)) c.trunk.result.now c.self.view_is
    c.self.invariant c.requires.first c.requires.last refl c.trunk.ensures.value).is
