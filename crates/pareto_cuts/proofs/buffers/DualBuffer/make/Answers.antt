use Rattle.std.proofs.Common.{ℕ, ◌+◌, ℤ, SFits, to_z-of_z, List, ap, ap₂, sym, subst, ◌∙◌, arith, rules}
use mir.Syntax.{w128}
use Rattle.hub_spec.specs.Cuts.{Prices}
use Rattle.hub_spec.specs.Separation.{minimal_dual}
use Rattle.hub_model.specs.Amounts.{natural}
use Rattle.hub_model.specs.Prices.{natural_values, AreSignedPrices}
use Rattle.hub_model.proofs.ListedValues.{listed_again}
use Rattle.pareto_cuts.proofs.buffers.DualBuffer.make.Goals as goal

pub invariant_of-self : goal.invariant_of-self
invariant_of-self c =
    let fits : SFits w128 c.make_dual-self-inside.result = search (rules, arith) in
    record {
      values_room = omega (arith, c.self.invariant.values_room, c.make_dual-self-inside.ensures.values_room);
      pairs_room = omega (arith, c.self.invariant.pairs_room, c.make_dual-self-inside.ensures.pairs_room);
      prices = subst (λ (z : ℤ). AreSignedPrices z c.make_dual-self-inside.new.u.items) (sym (to_z-of_z fits)) c.make_dual-self-inside.ensures.signed;
    }

pub returns-clause-dual : goal.returns-clause-dual
returns-clause-dual c =
    let s = c.args.separation.now in
    let d = minimal_dual s.problem s.hubs s.order (c.args.i, s.start + c.args.j) in
    let fits : SFits w128 c.make_dual-self-inside.result = search (rules, arith) in
    let made : ℤ → List (ℕ × ℤ) → Prices = λ a u. record { a = natural a; u = natural_values u } in
    ap₂ made (to_z-of_z fits ∙ c.make_dual-self-inside.ensures.price) c.make_dual-self-inside.ensures.values
    ∙ ap (λ (u : List (ℕ × ℕ)). record { a = d.a; u = u }) (listed_again d.u)
