use Rattle.std.proofs.Common.{◌≡◌, ℕ, ◌*◌, length, ap, ◌∙◌, arith}
use Rattle.std.proofs.lemmas.Nat.{mul-le}
use Rattle.std.proofs.lemmas.List.{with_items_is}
use Rattle.unit_duals.specs.Lengths.{RoomedLegs, stops}
use Rattle.unit_duals.proofs.FilledTables.{hops_found}
use Rattle.unit_duals.proofs.hops.Hops.fill.Goals as goal

pub copy-requires-2 : goal.copy-requires-2
copy-requires-2 c =
    let l = c.args.legs.now in
    let room = ap (λ (v : RoomedLegs). v.room) c.self.view_is in
    let long = ap length c.last.ensures.value in
    let most = mul-le (stops l) l.size c.self.inside.room c.self.inside.room (omega (arith, c.requires.stops, room)) (omega (arith, c.requires.size, room)) in
    omega (arith, long, c.last.ensures.legs.last_long, most, c.self.invariant.room.last_room)

pub invariant_of-self : goal.invariant_of-self
invariant_of-self c =
    let l = c.args.legs.now in
    let old = c.self.invariant.room in
    let lasts = c.set_hops.new.lasts in
    let lengths = c.set_hops.new.lengths in
    let cells : c.hubs.result * c.size.result ≡ l.hubs * l.size =
    ap (λ (h : ℕ). h * c.size.result) c.hubs.ensures.value ∙ ap (λ (n : ℕ). l.hubs * n) c.size.ensures.value in
    let lasts_long : length lasts ≡ l.hubs * l.size =
    omega (arith, c.set_hops.auto.lasts, c.deref_mut.ensures.len, c.fit.ensures.len, cells) in
    let lengths_long : length lengths ≡ l.hubs * l.size =
    omega (arith, c.set_hops.auto.lengths, c.deref_mut-2.ensures.len, c.fit-2.ensures.len, cells) in
    hops_found _ l lasts lengths
    (record {
      room_limit = old.room_limit;
      trunk_room = omega (arith, old.trunk_room, c.copy.ensures.room);
      last_room = omega (arith, old.last_room, c.copy-2.ensures.room);
      lasts_room = omega (arith, old.lasts_room, c.fit.ensures.room);
      lengths_room = omega (arith, old.lengths_room, c.fit-2.ensures.room);
    })
    c.size-self-inside.ensures.value c.count-self-inside.ensures.value c.hubs-self-inside.ensures.value
    (c.copy.ensures.items ∙ c.trunk.ensures.value) (c.copy-2.ensures.items ∙ c.last.ensures.value)
    (with_items_is c.fit.new.items lasts (omega (arith, lasts_long, c.fit.ensures.len, cells)))
    (with_items_is c.fit-2.new.items lengths (omega (arith, lengths_long, c.fit-2.ensures.len, cells)))
    c.trunk.ensures.legs lasts_long lengths_long c.set_hops.ensures.lasts c.set_hops.ensures.lengths
