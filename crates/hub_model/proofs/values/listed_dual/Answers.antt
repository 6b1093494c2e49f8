use Rattle.std.proofs.Common.{◌≡◌, ℕ, ◌^◌, ◌<◌, ◌≤◌, ℤ, pos, List, slice_index, subst, sym, ap, ap₂, ◌∙◌, arith}
use Rattle.std.proofs.lemmas.List.Elements.{All-weaker}
use Rattle.hub_spec.specs.Limits.{most_cost}
use Rattle.hub_spec.specs.Cuts.{Prices}
use Rattle.hub_spec.specs.Separation.{values_listed}
use Rattle.hub_model.specs.Amounts.{natural}
use Rattle.hub_model.specs.Prices.{natural_values, signed_values, AreSignedPrices}
use Rattle.hub_model.proofs.ListedValues.{listed_again, values_are_listed, signed_listed}
use Rattle.hub_model.proofs.SignedCosts.{handed_on}
use Rattle.hub_model.proofs.values.listed_dual.Goals as goal
use Rattle.hub_model.proofs.values.listed_dual.Goals.{After-list_values}

pub list_values-requires-clause-limit : goal.list_values-requires-clause-limit
list_values-requires-clause-limit c =
    All-weaker (λ (v : ℕ). v ≤ most_cost) (λ (v : ℕ). v < 2 ^ 127) (λ v low. omega (arith, low)) c.args.values.now c.requires.values

listed : (c : After-list_values)
    → c.list_values.new.list.items ≡ signed_values (values_listed (slice_index c.args.values.now) c.args.instance.now.candidates)
listed c =
    c.list_values.ensures.are ∙ ap (λ ks. signed_values (values_listed (slice_index c.args.values.now) ks)) c.candidates-candidates.ensures.value

pub new-requires : goal.new-requires
new-requires c =
    let v = slice_index c.args.values.now in
    let candidates = c.args.instance.now.candidates in
    let are = listed (goal.at.new-requires c).After-list_values in
    let price = handed_on c.signed.result c.args.price c.signed.ensures c.requires.price in
    let P : List (ℕ × ℤ) → Type 0 = AreSignedPrices (pos c.args.price) in
    let up = c.candidates-candidates.ensures.problem.candidates_ascend in
    rw price (subst P (sym are) (signed_listed c.args.price (values_listed v candidates) (values_are_listed v candidates up)))

pub returns : goal.returns
returns c =
    let v = slice_index c.args.values.now in
    let price = ap natural (handed_on c.signed.result c.args.price c.signed.ensures c.requires.price) in
    let are = listed (goal.at.returns c).After-list_values in
    let same : ℕ → List (ℕ × ℕ) → Prices = λ a u. record { a = a; u = u } in
    c.new.ensures ∙ ap₂ same price (ap natural_values are ∙ listed_again (values_listed v c.args.instance.now.candidates))
