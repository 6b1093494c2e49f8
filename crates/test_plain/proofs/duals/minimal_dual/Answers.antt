use Rattle.std.proofs.Common.{◌≡◌, slice_index, subst, sym, ◌∙◌, arith}
use Rattle.std.proofs.lemmas.Grind.{common_steps}
use Rattle.std.proofs.lemmas.Result.{IfOk-weaker}
use Rattle.hub_spec.specs.Cuts.{Prices}
use Rattle.hub_spec.specs.Separation.{IsMinimalDual, minimal_dual, values_listed}
use Rattle.hub_spec.specs.Plans.{HasRoute}
use Rattle.hub_model.specs.Values.{AreInTurn}
use Rattle.hub_model.proofs.AllowedRoutes.{set_has_route}
use Rattle.hub_model.proofs.Turns.{turns_within, listed_is, minimal_from}
use Rattle.test_plain.proofs.duals.minimal_dual.Goals as goal
use Rattle.test_plain.proofs.duals.minimal_dual.Goals.{After-deref}

turns : (c : After-deref) → AreInTurn c.args.instance.now c.args.hubs.now c.args.order.now (c.args.i, c.args.j) c.least_route-price.result.cost c.deref.result.now
turns c =
    let same : c.deref.result.now ≡ c.set_values.new.values = grind (arith, common_steps) in
    let turns = rw c.members-2.ensures.value at c.set_values.ensures in
    subst (AreInTurn c.args.instance.now c.args.hubs.now c.args.order.now (c.args.i, c.args.j) c.least_route-price.result.cost) (sym same) turns

pub listed_dual-requires-clause-values : goal.listed_dual-requires-clause-values
listed_dual-requires-clause-values c =
    turns_within c.args.instance.now c.args.hubs.now c.args.order.now (c.args.i, c.args.j) c.least_route-price.result.cost c.deref.result.now
    c.least_route-price.ensures.limit (turns (goal.at.listed_dual-requires-clause-values c).After-deref)

has : (c : After-deref) → HasRoute c.args.instance.now c.args.hubs.now (c.args.i, c.args.j)
has c = set_has_route c.args.instance.now c.args.hubs.now c.args.i c.args.j c.requires.hubs c.requires.from c.requires.to

made : (c : After-deref) → record { a = c.least_route-price.result.cost; u = values_listed (slice_index c.deref.result.now) c.args.instance.now.candidates }
    ≡ minimal_dual c.args.instance.now c.args.hubs.now c.args.order.now (c.args.i, c.args.j)
made c =
    let price = rw c.members.ensures.value at c.least_route-price.ensures.price in
    listed_is c.args.instance.now c.args.hubs.now c.args.order.now (c.args.i, c.args.j) c.least_route-price.result.cost c.deref.result.now
    (has c) price (turns c)

pub returns-clause-minimal : goal.returns-clause-minimal
returns-clause-minimal c =
    let Minimal : Prices → Type 0 = IsMinimalDual c.args.instance.now c.args.hubs.now c.args.order.now (c.args.i, c.args.j) in
    let dual : Prices = record { a = c.least_route-price.result.cost; u = values_listed (slice_index c.deref.result.now) c.args.instance.now.candidates } in
    let same = made (goal.at.returns-clause-minimal c).After-deref in
    IfOk-weaker c.listed_dual.result (λ d. d ≡ dual) Minimal
    (λ d e. minimal_from c.args.instance.now c.args.hubs.now c.args.order.now (c.args.i, c.args.j) d c.size.ensures.problem
    (has (goal.at.returns-clause-minimal c).After-deref) c.requires.order (e ∙ same)) c.listed_dual.ensures

pub returns-clause-is : goal.returns-clause-is
returns-clause-is c =
    let minimal : Prices = minimal_dual c.args.instance.now c.args.hubs.now c.args.order.now (c.args.i, c.args.j) in
    let dual : Prices = record { a = c.least_route-price.result.cost; u = values_listed (slice_index c.deref.result.now) c.args.instance.now.candidates } in
    let same = made (goal.at.returns-clause-is c).After-deref in
    IfOk-weaker c.listed_dual.result (λ d. d ≡ dual) (λ d. d ≡ minimal) (λ d e. e ∙ same) c.listed_dual.ensures
