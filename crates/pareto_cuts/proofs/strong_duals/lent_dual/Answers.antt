use Rattle.std.proofs.Common.{◌≡◌, ℕ, ◌++◌, ◌∷◌, [], ℤ, pos, SFits, to_z, of_z, to_z-of_z, List, get_or, ap, ap₂, sym, ◌∙◌, arith, rules}
use Rattle.std.proofs.lemmas.List.{take_more, take_all}
use mir.Syntax.{w128}
use Rattle.hub_spec.specs.Cuts.{Prices}
use Rattle.hub_model.specs.Amounts.{natural}
use Rattle.hub_model.specs.Prices.{natural_values, signed_values}
use Rattle.hub_model.proofs.ListedValues.{listed_again, signed_listed}
use Rattle.pareto_cuts.proofs.strong_duals.lent_dual.Goals as goal
use Rattle.pareto_cuts.proofs.strong_duals.lent_dual.Goals.{After-loop-value}

pub loop-value-preserved : goal.loop-value-preserved
loop-value-preserved c =
    c.in_ok-push.ensures.items ∙ ap (λ (us : List (ℕ × ℤ)). us ++ get_or c.dual-a.result.1.now c.loop-value.value-index (0, pos 0) ∷ []) c.loop-value.invariant
    ∙ sym (take_more c.dual-a.result.1.now c.loop-value.value-index (0, pos 0) c.loop-value-test.true)

listed : (c : After-loop-value) → c.loop-value.values.items ≡ signed_values c.args.scratch.now.dual.u
listed c = c.loop-value.invariant ∙ take_all c.loop-value.value-index c.dual-a.result.1.now c.loop-value-test.false ∙ c.dual-a.ensures.values

price : (c : After-loop-value) → to_z w128 (of_z w128 c.dual-a.result.0) ≡ pos c.args.scratch.now.dual.a
price c =
    let fits : SFits w128 c.dual-a.result.0 = search (rules, arith) in
    to_z-of_z fits ∙ c.dual-a.ensures.price

pub new-requires : goal.new-requires
new-requires c =
    rw (price c, listed c) (signed_listed c.args.scratch.now.dual.a c.args.scratch.now.dual.u c.dual-a.ensures.listed)

pub returns : goal.returns
returns c =
    let made : ℤ → List (ℕ × ℤ) → Prices = λ a u. record { a = natural a; u = natural_values u } in
    let w = (goal.at.returns c).After-loop-value in
    c.new.ensures ∙ ap₂ made (price w) (listed w)
    ∙ ap (λ (u : List (ℕ × ℕ)). record { a = c.args.scratch.now.dual.a; u = u }) (listed_again c.args.scratch.now.dual.u)
