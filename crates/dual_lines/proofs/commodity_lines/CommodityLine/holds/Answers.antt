use Rattle.std.proofs.Common.{◌≡◌, ℕ, true, false, List, All, IsTrue, ◌↔◌, sym, subst, ◌∙◌}
use Rattle.hub_spec.specs.Cuts.{Prices, IsDual}
use Rattle.hub_spec.specs.Ranges.{IsAmount}
use Rattle.dual_lines.specs.Covers.{IsCoveredFirst}
use Rattle.dual_lines.specs.Lines.{CommodityDual}
use Rattle.dual_lines.proofs.DualByAmounts.{amounts_short, listed_are_candidates, candidates_have_places, dual_by_amounts}
use Rattle.dual_lines.proofs.commodity_lines.CommodityLine.holds.Goals as goal

pub is_covered-requires-clause-short : goal.is_covered-requires-clause-short
is_covered-requires-clause-short c =
    let p = c.self.inside.legs in
    subst (All IsAmount) (sym c.deref.ensures.value)
    (amounts_short p.size p.size c.self.inside.line.price c.self.inside.listed.items c.self.inside.amounts.items c.self.invariant.range c.self.invariant.amounts)

pub returns-then-self : goal.returns-then-self
returns-then-self c =
    let p = c.self.inside.legs in
    let line = c.self.inside.line in
    let d : Prices = record { a = line.price; u = c.self.inside.listed.items } in
    subst (λ (v : CommodityDual). IsTrue c.is_covered.result ↔ IsDual v.problem v.part v.commodity v.dual) c.self.view_is
    (dual_by_amounts p line.part (line.from, line.to) d c.self.inside.amounts.items c.is_covered.result c.self.invariant.amounts
    (listed_are_candidates p c.self.inside.places.items d c.self.invariant.places c.self.invariant.range (c.self.invariant.candidates.0 c.if-self.true))
    (subst (λ (vs : List ℕ). IsTrue c.is_covered.result ↔ All (IsCoveredFirst p line.part (line.from, line.to) line.price vs) p.candidates) c.deref.ensures.value
    c.is_covered.ensures))

pub returns-else-self : goal.returns-else-self
returns-else-self c =
    let p = c.self.inside.legs in
    let line = c.self.inside.line in
    subst (λ (v : CommodityDual). IsTrue c.self.inside.are_candidates ↔ IsDual v.problem v.part v.commodity v.dual) c.self.view_is (
      λ yes. absurd (let e : false ≡ true = sym c.if-self.false ∙ yes in cc),
      λ dual. c.self.invariant.candidates.1
          (candidates_have_places p c.self.inside.places.items c.self.inside.listed.items c.self.invariant.places dual.are_candidates),
    )
