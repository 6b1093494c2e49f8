use Rattle.std.proofs.Common.{◌≡◌, ℕ, ◌*◌, ℤ, pos, to_z, of_z, List, subst, sym, ap, ap₂, ◌∙◌, arith}
use Rattle.std.specs.Int.{w128}
use Rattle.std.proofs.lemmas.List.{take_all}
use Rattle.std.proofs.Math.Nat.{mul-le-mul}
use Rattle.hub_spec.specs.Cuts.{Prices}
use Rattle.hub_model.specs.Amounts.{natural}
use Rattle.hub_model.specs.Prices.{natural_values, signed_values, AreSignedPrices}
use Rattle.hub_model.proofs.ListedValues.{as_natural, listed_again, signed_listed}
use Rattle.core_cuts.specs.FoundCuts.{times_values}
use Rattle.core_cuts.proofs.TimesDuals.{listed_times}
use Rattle.core_cuts.proofs.brought_duals.times_dual.Goals as goal
use Rattle.core_cuts.proofs.brought_duals.times_dual.Goals.{After-signed}

price_is : (c : After-signed) → to_z w128 (of_z w128 c.signed.result) ≡ pos (c.args.times * c.price.result)
price_is c =
    let low = mul-le-mul c.requires.times c.requires.within.price in
    as_natural c.signed.result (c.args.times * c.price.result) c.signed.ensures (omega (arith, low, ap (λ x. c.args.times * x) c.price.ensures))

values_are : (c : After-signed) → c.loop-at.u.items ≡ signed_values (times_values c.args.times c.args.dual.now.u)
values_are c =
    c.loop-at.invariant
    ∙ ap (λ (u : List (ℕ × ℕ)). signed_values (times_values c.args.times u)) (take_all c.loop-at.at c.args.dual.now.u (omega arith))

pub new-requires : goal.new-requires
new-requires c =
    let n = c.args.times in
    let u = c.args.dual.now.u in
    let P : List (ℕ × ℤ) → Type 0 = AreSignedPrices (pos (n * c.price.result)) in
    subst (λ (a : ℤ). AreSignedPrices a c.loop-at.u.items) (sym (price_is (goal.at.new-requires c).After-signed))
    (subst P (sym (values_are (goal.at.new-requires c).After-signed))
    (signed_listed (n * c.price.result) (times_values n u) (listed_times n u c.requires.some c.requires.listed)))

pub returns : goal.returns
returns c =
    let n = c.args.times in
    let u = c.args.dual.now.u in
    let made : ℤ → List (ℕ × ℤ) → Prices = λ a u. record { a = natural a; u = natural_values u } in
    let dual : ℕ → List (ℕ × ℕ) → Prices = λ a u. record { a = n * a; u = u } in
    c.new.ensures ∙ ap₂ made (price_is (goal.at.returns c).After-signed) (values_are (goal.at.returns c).After-signed)
    ∙ ap₂ dual c.price.ensures (listed_again (times_values n u))
