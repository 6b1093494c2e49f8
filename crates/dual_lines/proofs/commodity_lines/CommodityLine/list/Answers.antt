use Rattle.std.proofs.Common.{◌≡◌, ℕ, ◌<◌, List, IsTrue, ◌↔◌, true, false, All, length, slice_index, ap, sym, subst, ◌∙◌, rules, arith}
use Rattle.std.proofs.lemmas.List.{with_items_is}
use Rattle.dual_lines.specs.Lines.{CommodityDual}
use Rattle.dual_lines.specs.LineParts.{HasPlace}
use Rattle.dual_lines.proofs.HeldLines.{range_listed, amounts_listed, units_listed, candidates_listed, few_listed}
use Rattle.dual_lines.proofs.commodity_lines.CommodityLine.list.Goals as goal
use Rattle.dual_lines.proofs.commodity_lines.CommodityLine.list.Goals.{then-self, else-self}

pub push_reserved-requires : goal.push_reserved-requires
push_reserved-requires c =
    let s = c.self.inside in
    let fresh = subst (λ (v : CommodityDual). All (λ (e : ℕ × ℕ). e.0 < c.args.k) v.dual.u) (sym c.self.view_is) c.requires.above in
    let node = subst (λ (v : CommodityDual). c.args.k < v.problem.size) (sym c.self.view_is) c.requires.node in
    omega (arith, few_listed s.legs.size s.line.price s.listed.items c.args.k c.self.invariant.range node fresh, c.self.invariant.room, s.listed.ok.0)

pub invariant_of-self : goal.invariant_of-self
invariant_of-self c =
    let s = c.self.inside in
    let p = s.legs in
    let k = c.args.k in
    let v = c.args.u in
    let u = s.listed.items in
    let fresh = subst (λ (d : CommodityDual). All (λ (e : ℕ × ℕ). e.0 < k) d.dual.u) (sym c.self.view_is) c.requires.above in
    let node : k < p.size = subst (λ (d : CommodityDual). k < d.problem.size) (sym c.self.view_is) c.requires.node in
    let units_are = with_items_is s.units c.put_unit-placed.new.units (omega (arith, c.put_unit-placed.auto.units, c.deref_mut.ensures.len)) in
    let places = c.deref.ensures.value in
    let units = c.deref_mut.ensures.value in
    let count : length c.deref_mut.result.now ≡ length p.candidates = ap (λ (xs : List ℕ). length xs) units ∙ c.self.invariant.units.long in
    let has_place = HasPlace p s.places.items in
    let put : IsTrue c.put_unit-placed.result ↔ has_place k =
    subst (λ (n : ℕ). IsTrue c.put_unit-placed.result ↔ slice_index s.places.items k < n) count
    (subst (λ (xs : List ℕ). IsTrue c.put_unit-placed.result ↔ slice_index xs k < length c.deref_mut.result.now) places c.put_unit-placed.ensures.placed) in
    let both : IsTrue c.if-self.self ↔ (IsTrue s.are_candidates × IsTrue c.put_unit-placed.result) =
    elim c.if-self.branch [
      | then-self w ↦ (λ yes. (w.if-self.true, sym w.self-is ∙ yes), λ h. w.self-is ∙ h.1)
      | else-self w ↦ (λ yes. absurd (let e : false ≡ true = sym w.if-self.false ∙ sym w.self-is ∙ yes in cc), λ h. w.self-is ∙ h.0)
    ] in
    record {
      problem = c.self.invariant.problem;
      from = c.self.invariant.from;
      to = c.self.invariant.to;
      range = rw c.push_reserved.ensures.items (range_listed p.size s.line.price u k v node fresh c.requires.least c.requires.most c.self.invariant.range);
      part = c.self.invariant.part;
      carried = c.self.invariant.carried;
      room = omega (arith, c.push_reserved.ensures.capacity, c.self.invariant.room);
      places = c.self.invariant.places;
      amounts = rw c.push_reserved.ensures.items (amounts_listed p.size u s.amounts.items k v node fresh c.self.invariant.amounts (search rules));
      units = rw (c.push_reserved.ensures.items, units_are)
          (units_listed p s.carried c.deref.result.now u k v c.unit_value-value.result c.deref_mut.result.now c.put_unit-placed.new.units
          (rw places c.self.invariant.places) node fresh c.unit_value-value.ensures.all c.unit_value-value.ensures.one c.unit_value-value.ensures.limit
          c.put_unit-placed.ensures.here c.put_unit-placed.ensures.others (search rules) (rw units c.self.invariant.units));
      candidates = rw c.push_reserved.ensures.items
          (candidates_listed (λ (e : ℕ × ℕ). has_place e.0) u (k, v) s.are_candidates c.put_unit-placed.result c.if-self.self
          c.self.invariant.candidates put both);
    }
