use Rattle.std.proofs.Common.{◌≡◌, ◌+◌, ◌*◌, length, ap, arith}
use Rattle.std.proofs.lemmas.List.{with_items_is}
use Rattle.std.specs.Vec.{with_items}
use Rattle.unit_duals.specs.Lengths.{RoomedLegs}
use Rattle.leg_duals.specs.StopLegs.{AreLegsOf}
use Rattle.leg_duals.proofs.FilledLegs.{legs_of_tables}
use Rattle.leg_duals.proofs.set_legs.SetLegs.fill.Goals as goal
use Rattle.leg_duals.proofs.set_legs.SetLegs.fill.Goals.{After-set_last}

filled : (c : After-set_last) → AreLegsOf c.args.instance.now c.args.hubs.now c.args.order.now c.args.start
    (record {
      size = c.args.size;
      count = length c.args.order.now;
      hubs = length c.args.hubs.now;
      trunk = (with_items c.fit.new.items c.set_trunk.new.trunk).items;
      last = (with_items c.fit-2.new.items c.set_last.new.last).items;
    })
filled c =
    let stops = length c.args.order.now + length c.args.hubs.now in
    let trunk = c.set_trunk.new.trunk in
    let last = c.set_last.new.last in
    let room = ap (λ (v : RoomedLegs). v.room) c.self.view_is in
    let trunk_long : length trunk ≡ stops * stops = omega (arith, c.set_trunk.auto.trunk, c.deref_mut.ensures.len, c.fit.ensures.len) in
    let last_long : length last ≡ stops * c.args.size = omega (arith, c.set_last.auto.last, c.deref_mut-2.ensures.len, c.fit-2.ensures.len) in
    legs_of_tables c.args.instance.now c.args.hubs.now c.args.order.now c.args.start c.args.size trunk last _ _
    (with_items_is c.fit.new.items trunk (omega (arith, trunk_long, c.fit.ensures.len)))
    (with_items_is c.fit-2.new.items last (omega (arith, last_long, c.fit-2.ensures.len)))
    c.requires.destinations (omega (arith, c.requires.room_size, room, c.self.invariant.room_limit))
    (omega (arith, c.requires.room_stops, room, c.self.invariant.room_limit)) trunk_long last_long
    c.set_trunk.ensures.legs c.set_last.ensures.legs c.set_trunk.ensures.limit c.set_last.ensures.limit

pub invariant_of-self : goal.invariant_of-self
invariant_of-self c = record {
  legs = (filled (goal.at.invariant_of-self c).After-set_last).legs;
  room_limit = c.self.invariant.room_limit;
  trunk_room = omega (arith, c.self.invariant.trunk_room, c.fit.ensures.room);
  last_room = omega (arith, c.self.invariant.last_room, c.fit-2.ensures.room);
}

pub returns-clause-legs : goal.returns-clause-legs
returns-clause-legs c = filled (goal.at.returns-clause-legs c).After-set_last
