use Rattle.std.proofs.Common.{◌≡◌, ℕ, ◌*◌, ◌≤◌, ℤ, pos, to_z, of_z, List, zip, subst, sym, ap, ap₂, ◌∙◌, arith}
use Rattle.std.specs.Int.{w128}
use Rattle.std.specs.List.Sorted.{IsStrictlyIncreasing}
use Rattle.std.proofs.lemmas.Nat.{mul-le}
use Rattle.hub_spec.specs.Limits.{most_flow}
use Rattle.hub_spec.specs.Problem.{flow}
use Rattle.hub_spec.specs.Cuts.{Prices, value_at}
use Rattle.hub_spec.specs.Separation.{values_listed}
use Rattle.hub_model.specs.Amounts.{natural}
use Rattle.hub_model.specs.Prices.{natural_values, AreSignedPrices}
use Rattle.hub_model.proofs.ListedValues.{as_natural, listed_again, values_are_listed, signed_listed}
use Rattle.core_cuts.specs.Readings.{Reading, most_units, dual_of}
use Rattle.core_cuts.proofs.unit_prices.UnitPrices.times_flow.Goals as goal
use Rattle.core_cuts.proofs.unit_prices.UnitPrices.times_flow.Goals.{After-signed}

same_price : (c : After-signed) → c.self.inside.price ≡ c.args.self.now.price
same_price c = ap (λ (r : Reading). r.price) c.self.view_is

price_is : (c : After-signed) → to_z w128 (of_z w128 c.signed.result) ≡ pos (c.flow_between-carried.result * c.self.inside.price)
price_is c =
    let low : c.self.inside.price ≤ most_units = omega (arith, same_price c, c.requires.within.price) in
    as_natural c.signed.result (c.flow_between-carried.result * c.self.inside.price) c.signed.ensures
    (omega (arith, mul-le c.flow_between-carried.result c.self.inside.price most_flow most_units c.flow_between-carried.ensures.limit low))

pub new-requires : goal.new-requires
new-requires c =
    let ks = c.candidates-candidates.result.now in
    let v : ℕ → ℕ = λ k. c.flow_between-carried.result * value_at (zip ks c.deref.result.now) k in
    let up = subst IsStrictlyIncreasing (sym c.candidates-candidates.ensures.value) c.candidates-candidates.ensures.problem.candidates_ascend in
    let P : List (ℕ × ℤ) → Type 0 = AreSignedPrices (pos (c.flow_between-carried.result * c.self.inside.price)) in
    subst (λ (a : ℤ). AreSignedPrices a c.list_times.new.list.items) (sym (price_is (goal.at.new-requires c).After-signed))
    (subst P (sym c.list_times.ensures)
    (signed_listed (c.flow_between-carried.result * c.self.inside.price) (values_listed v ks) (values_are_listed v ks up)))

pub returns : goal.returns
unfolding dual_of
returns c =
    let ks = c.candidates-candidates.result.now in
    let vs = c.deref.result.now in
    let w = c.flow_between-carried.result in
    let a = c.self.inside.price in
    let r = c.args.self.now in
    let v : ℕ → ℕ = λ k. w * value_at (zip ks vs) k in
    let made : ℤ → List (ℕ × ℤ) → Prices = λ a u. record { a = natural a; u = natural_values u } in
    let dual : ℕ → List ℕ → List ℕ → ℕ → Prices =
    λ f ks vs a. record { a = f * a; u = values_listed (λ k. f * value_at (zip ks vs) k) ks } in
    let f = flow c.args.instance.now c.args.i c.args.j in
    c.new.ensures ∙ ap₂ made (price_is (goal.at.returns c).After-signed) c.list_times.ensures
    ∙ ap (λ (u : List (ℕ × ℕ)). record { a = w * a; u = u }) (listed_again (values_listed v ks))
    ∙ ap (λ (n : ℕ). dual n ks vs a) c.flow_between-carried.ensures.value
    ∙ ap (λ (ms : List ℕ). dual f ms vs a) c.candidates-candidates.ensures.value
    ∙ ap₂ (dual f c.args.instance.now.candidates) (c.deref.ensures.value ∙ ap (λ (q : Reading). q.values) c.self.view_is) (same_price (goal.at.returns c).After-signed)
