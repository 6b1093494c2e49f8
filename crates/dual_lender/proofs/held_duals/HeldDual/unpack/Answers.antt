use Rattle.std.proofs.Common.{ℕ, ℤ, SFits, to_z-of_z, List, ap, ap₂, sym, subst, ◌∙◌, arith, rules}
use mir.Syntax.{w128}
use Rattle.hub_spec.specs.Cuts.{Prices}
use Rattle.hub_model.specs.Amounts.{natural}
use Rattle.hub_model.specs.Prices.{natural_values, AreSignedPrices}
use Rattle.hub_model.proofs.ListedValues.{listed_again}
use Rattle.dual_lender.proofs.held_duals.HeldDual.unpack.Goals as goal

pub invariant_of-self : goal.invariant_of-self
invariant_of-self c =
    let fits : SFits w128 c.unpacked-self-inside.result = search (rules, arith) in
    record {
      room = omega (arith, c.self.invariant.room, c.unpacked-self-inside.ensures.room);
      prices = subst (λ (z : ℤ). AreSignedPrices z c.unpacked-self-inside.new.list.items) (sym (to_z-of_z fits)) c.unpacked-self-inside.ensures.signed;
    }

pub returns-clause-dual : goal.returns-clause-dual
returns-clause-dual c =
    let d = c.args.dual.now in
    let fits : SFits w128 c.unpacked-self-inside.result = search (rules, arith) in
    let made : ℤ → List (ℕ × ℤ) → Prices = λ a u. record { a = natural a; u = natural_values u } in
    ap₂ made (to_z-of_z fits ∙ c.unpacked-self-inside.ensures.price) c.unpacked-self-inside.ensures.values
    ∙ ap (λ (u : List (ℕ × ℕ)). record { a = d.a; u = u }) (listed_again d.u)
