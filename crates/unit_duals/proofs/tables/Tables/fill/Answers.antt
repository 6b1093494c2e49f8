use Rattle.std.proofs.Common.{◌≡◌, ℕ, ◌*◌, List, length, ap, subst, ◌∙◌, arith}
use Rattle.std.proofs.lemmas.Nat.{mul-le}
use Rattle.std.proofs.lemmas.List.{with_items_is}
use Rattle.unit_duals.specs.Lengths.{RoomedLegs, stops}
use Rattle.unit_duals.specs.Nearness.{AreNearLists, IsFarForth, IsFarHome}
use Rattle.unit_duals.proofs.FilledTables.{tables_made}
use Rattle.unit_duals.proofs.tables.Tables.fill.Goals as goal

pub copy-requires-2 : goal.copy-requires-2
copy-requires-2 c =
    let l = c.args.legs.now in
    let room = ap (λ (v : RoomedLegs). v.room) c.self.view_is in
    let long = ap length c.last.ensures.value in
    let most = mul-le (stops l) l.size c.self.inside.room c.self.inside.room (omega (arith, c.requires.stops, room)) (omega (arith, c.requires.size, room)) in
    omega (arith, long, c.last.ensures.legs.last_long, most, c.self.invariant.room.last_room)

pub fit-requires : goal.fit-requires
fit-requires c =
    let l = c.args.legs.now in
    let room = ap (λ (v : RoomedLegs). v.room) c.self.view_is in
    let long = ap length c.trunk-2.ensures.value in
    let most = mul-le (stops l) (stops l) c.self.inside.room c.self.inside.room (omega (arith, c.requires.stops, room)) (omega (arith, c.requires.stops, room)) in
    omega (arith, long, c.trunk-2.ensures.legs.trunk_long, most, c.self.invariant.room.turned_room)

pub fit-requires-2 : goal.fit-requires-2
fit-requires-2 c =
    let l = c.args.legs.now in
    let room = ap (λ (v : RoomedLegs). v.room) c.self.view_is in
    let long = ap length c.last-2.ensures.value in
    let most = mul-le (stops l) l.size c.self.inside.room c.self.inside.room (omega (arith, c.requires.stops, room)) (omega (arith, c.requires.size, room)) in
    omega (arith, long, c.last-2.ensures.legs.last_long, most, c.self.invariant.room.back_room)

pub set_forth-requires-clause-nodes : goal.set_forth-requires-clause-nodes
set_forth-requires-clause-nodes c =
    let l = c.args.legs.now in
    let n = c.self.inside.room in
    let room = ap (λ (v : RoomedLegs). v.room) c.self.view_is in
    let pairs = mul-le l.count l.count n n (omega (arith, c.requires.stops, room)) (omega (arith, c.requires.stops, room)) in
    let most = mul-le (l.count * l.count) l.size (n * n) n pairs (omega (arith, c.requires.size, room)) in
    omega (arith, most, c.self.invariant.room.forth_nodes)

pub set_home-requires-clause-nodes : goal.set_home-requires-clause-nodes
set_home-requires-clause-nodes c =
    let l = c.args.legs.now in
    let n = c.self.inside.room in
    let room = ap (λ (v : RoomedLegs). v.room) c.self.view_is in
    let pairs = mul-le l.count l.count n n (omega (arith, c.requires.stops, room)) (omega (arith, c.requires.stops, room)) in
    let most = mul-le (l.count * l.count) l.size (n * n) n pairs (omega (arith, c.requires.size, room)) in
    omega (arith, most, c.self.invariant.room.home_nodes)

pub invariant_of-self : goal.invariant_of-self
invariant_of-self c =
    let l = c.args.legs.now in
    let old = c.self.invariant.room in
    let room = ap (λ (v : RoomedLegs). v.room) c.self.view_is in
    let turned = c.set_turned.new.turned in
    let back = c.set_back.new.back in
    let trunk_is = ap length c.trunk-2.ensures.value in
    let last_is = ap length c.last-2.ensures.value in
    let turned_long : length turned ≡ stops l * stops l =
    omega (arith, c.set_turned.auto.turned, c.deref_mut.ensures.len, c.fit.ensures.len, trunk_is, c.trunk-2.ensures.legs.trunk_long) in
    let back_long : length back ≡ stops l * l.size =
    omega (arith, c.set_back.auto.back, c.deref_mut-4.ensures.len, c.fit-2.ensures.len, last_is, c.last-2.ensures.legs.last_long) in
    let turned_items = with_items_is c.fit.new.items turned
    (omega (arith, turned_long, c.fit.ensures.len, trunk_is, c.trunk-2.ensures.legs.trunk_long)) in
    let back_items = with_items_is c.fit-2.new.items back
    (omega (arith, back_long, c.fit-2.ensures.len, last_is, c.last-2.ensures.legs.last_long)) in
    tables_made _ l turned back
    (record {
      room_limit = old.room_limit;
      trunk_room = omega (arith, old.trunk_room, c.copy.ensures.room);
      turned_room = omega (arith, old.turned_room, c.fit.ensures.room);
      last_room = omega (arith, old.last_room, c.copy-2.ensures.room);
      back_room = omega (arith, old.back_room, c.fit-2.ensures.room);
      straight_room = omega (arith, old.straight_room, c.fit-3.ensures.room);
      column_room = omega (arith, old.column_room, c.fit-4.ensures.room);
      forth_starts = c.set_forth.ensures.starts ∙ old.forth_starts;
      forth_nodes = omega (arith, old.forth_nodes, c.set_forth.ensures.nodes);
      home_starts = c.set_home.ensures.starts ∙ old.home_starts;
      home_nodes = omega (arith, old.home_nodes, c.set_home.ensures.nodes);
    })
    c.size-self-inside.ensures.value c.count-self-inside.ensures.value c.hubs-self-inside.ensures.value
    (c.copy.ensures.items ∙ c.trunk.ensures.value) (c.copy-2.ensures.items ∙ c.last.ensures.value) turned_items back_items
    (omega (arith, c.requires.size, room)) (omega (arith, c.requires.stops, room)) c.trunk.ensures.legs turned_long back_long
    c.set_turned.ensures c.set_back.ensures
    (subst (λ (xs : List ℕ). AreNearLists l.size l.count (IsFarForth l xs) l.count c.set_forth.new.self.starts.items c.set_forth.new.self.nodes.items)
    (c.deref-2.ensures.value ∙ back_items) c.set_forth.ensures.lists)
    (subst (λ (xs : List ℕ). AreNearLists l.size l.count (IsFarHome l xs) l.count c.set_home.new.self.starts.items c.set_home.new.self.nodes.items)
    (c.deref-3.ensures.value ∙ back_items) c.set_home.ensures.lists)
