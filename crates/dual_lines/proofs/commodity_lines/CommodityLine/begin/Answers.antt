use Rattle.std.proofs.Common.{ℕ, ◌≡◌, length, ap, subst, arith}
use Rattle.std.proofs.lemmas.List.{with_items_is}
use Rattle.hub_spec.specs.Problem.{Problem}
use Rattle.hub_model.specs.CandidateLengths.{candidate_at}
use Rattle.dual_lines.proofs.HeldLines.{range_begun, amounts_begun, units_begun, candidates_begun, places_lent, units_lent}
use Rattle.dual_lines.proofs.commodity_lines.CommodityLine.begin.Goals as goal

pub invariant_of-self : goal.invariant_of-self
invariant_of-self c =
    let p = c.self.inside.legs in
    let none = c.clear-2.ensures.items in
    let same : c.self.inside.legs.size ≡ c.args.self.now.problem.size = ap (λ (q : Problem). q.size) (ap (λ d. d.problem) c.self.view_is) in
    let amounts_are = with_items_is c.self.inside.amounts c.clear.new.amounts (omega (arith, c.clear.auto.amounts, c.deref_mut.ensures.len)) in
    let units_are = with_items_is c.self.inside.units c.clear.new.units (omega (arith, c.clear.auto.units, c.deref_mut-2.ensures.len)) in
    let amounts_long : length c.clear.new.amounts ≡ p.size = omega (arith, c.clear.auto.amounts, c.deref_mut.ensures.len, c.self.invariant.amounts.long) in
    let units_long : length c.clear.new.units ≡ length p.candidates = omega (arith, c.clear.auto.units, c.deref_mut-2.ensures.len, c.self.invariant.units.long) in
    let count = length c.deref_mut-2.result.now in
    let all : count ≡ length p.candidates = omega (arith, c.deref_mut-2.ensures.len, c.self.invariant.units.long) in
    let placed = places_lent p c.self.inside.places.items c.deref-2.result.now count c.self.invariant.places c.deref-2.ensures.value all in
    let within = units_lent p c.self.inside.carried c.self.inside.listed.items c.deref.result.now c.self.inside.units.items c.deref_mut-2.result.now count
    c.self.invariant.units c.deref.ensures.value c.deref_mut-2.ensures.value all in
    record {
      problem = c.self.invariant.problem;
      from = omega (arith, same, c.requires.from);
      to = omega (arith, same, c.requires.to);
      range = rw none (range_begun p.size c.args.a c.requires.most);
      part = c.requires.part;
      carried = c.carried-self-inside.ensures;
      room = omega (arith, c.clear-2.ensures.capacity, c.self.invariant.room);
      places = c.self.invariant.places;
      amounts = rw (none, amounts_are) (amounts_begun p.size c.clear.new.amounts amounts_long c.clear.ensures.amounts);
      units = rw (none, units_are) (units_begun p c.carried-self-inside.result c.clear.new.units units_long
          (λ x below. c.clear.ensures.units (candidate_at p) placed within x (omega (arith, below, c.clear.auto.units))));
      candidates = rw none (candidates_begun p c.self.inside.places.items);
    }
