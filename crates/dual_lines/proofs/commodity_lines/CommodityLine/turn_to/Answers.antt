use Rattle.std.proofs.Common.{◌<◌, ℕ, List, sym, subst, arith}
use Rattle.std.proofs.lemmas.List.{with_items_is}
use Rattle.hub_spec.specs.Cuts.{value_at}
use Rattle.dual_lines.specs.Lines.{CommodityDual}
use Rattle.dual_lines.specs.Units.{AreUnits}
use Rattle.dual_lines.proofs.commodity_lines.CommodityLine.turn_to.Goals as goal

pub invariant_of-self : goal.invariant_of-self
invariant_of-self c =
    let s = c.self.inside in
    let p = s.legs in
    let units_are = with_items_is s.units c.put_anew.new.units (omega (arith, c.put_anew.auto.units, c.deref_mut.ensures.len)) in
    let node : c.args.j < p.size = subst (λ (d : CommodityDual). c.args.j < d.problem.size) (sym c.self.view_is) c.requires in
    let u = c.deref.ensures.value in
    let anew = c.put_anew.ensures p s.carried
    (rw c.deref-2.ensures.value c.self.invariant.places)
    (rw u c.self.invariant.range.ascend)
    (rw (u, c.deref_mut.ensures.value) c.self.invariant.units) in
    record {
      problem = c.self.invariant.problem;
      from = c.self.invariant.from;
      to = node;
      range = c.self.invariant.range;
      part = c.self.invariant.part;
      carried = c.carried-self-inside.ensures;
      room = c.self.invariant.room;
      places = c.self.invariant.places;
      amounts = c.self.invariant.amounts;
      units = rw units_are (subst (λ (es : List (ℕ × ℕ)). AreUnits p c.carried-self-inside.result (value_at es) c.put_anew.new.units) u anew);
      candidates = c.self.invariant.candidates;
    }
