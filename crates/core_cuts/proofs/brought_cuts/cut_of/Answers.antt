use Rattle.std.proofs.Common.{◌≡◌, ℕ, ◌*◌, ◌/◌, ◌%◌, ◌<◌, ◌≤◌, ◌⊎◌, Option, IfSome, length, get_or, sym, ap, ◌∙◌, subst, mul-le-mul_right, arith}
use Rattle.std.specs.Int.{◌∣◌}
use Rattle.hub_spec.specs.Cuts.{Prices}
use Rattle.hub_spec.specs.Limits.{most_nodes, most_cost}
use Rattle.hub_spec.specs.Problem.{flow}
use Rattle.hub_spec.specs.Ranges.{IsDualInRange}
use Rattle.core_cuts.specs.Brought.{IsDualWithin, IsSoundFound}
use Rattle.core_cuts.specs.FoundCuts.{brought}
use Rattle.core_cuts.specs.Readings.{most_units, FoundDual}
use Rattle.core_cuts.proofs.TimesDuals.{brought_range, wider_range, fit_within, within_fit, brought_next, brought_all}
use Rattle.core_cuts.proofs.brought_cuts.cut_of.Goals as goal
use Rattle.core_cuts.proofs.brought_cuts.cut_of.Goals.{After-index-founds-t, In-Some}

below : (c : After-index-founds-t) → c.loop-t.t < c.args.instance.now.size * c.args.instance.now.size
below c = omega (arith, ap (λ (n : ℕ). n * n) c.size-n.ensures.value)

there : (c : After-index-founds-t) → c.loop-t.t < length c.args.founds.now
there c = omega (arith, below c, c.requires.one_each)

divides : (c : After-index-founds-t) → c.index-founds-t.result.part ∣ c.args.part
divides c =
    subst (λ (f : FoundDual). f.part ∣ c.args.part) (sym c.index-founds-t.is) (c.requires.divide c.loop-t.t c.index-founds-t.result (there c))

sound : (c : After-index-founds-t) → IsSoundFound c.args.instance.now (get_or c.args.founds.now c.loop-t.t c.index-founds-t.result)
sound c = c.requires.sound c.loop-t.t c.index-founds-t.result (there c)

carried : (c : After-index-founds-t) → c.flow_between.result
    ≡ flow c.args.instance.now (c.loop-t.t / c.args.instance.now.size) (c.loop-t.t % c.args.instance.now.size)
carried c =
    c.flow_between.ensures.value ∙ ap (λ (n : ℕ). flow c.args.instance.now (c.loop-t.t / n) (c.loop-t.t % n)) c.size-n.ensures.value

pub brought_dual-requires-clause-divides : goal.brought_dual-requires-clause-divides
brought_dual-requires-clause-divides c = divides (goal.at.brought_dual-requires-clause-divides c).After-index-founds-t

range : (c : In-Some) → IsDualInRange c.args.instance.now.size c.in-Some.dual
range c =
    let p = c.args.instance.now in
    let f = c.index-founds-t.result in
    let before = (goal.at.In-Some c).After-index-founds-t in
    let within = subst (λ (o : Option Prices). IfSome o (λ d. IsDualWithin c.most_amount-most.result d)) c.in-Some.is c.in_ok-dual.ensures.within in
    let is = subst (λ (o : Option Prices). IfSome o (λ d. d ≡ brought c.args.part f)) c.in-Some.is c.in_ok-dual.ensures.is in
    let limit = mul-le-mul_right most_cost c.requires.limit in
    subst (IsDualInRange p.size) (sym is)
    (brought_range p c.args.part c.most_amount-most.result f c.size-n.ensures.problem (subst (IsSoundFound p) (sym c.index-founds-t.is) (sound before))
    (divides before) c.requires.part (omega (arith, limit, c.most_amount-most.ensures.sums)) (subst (IsDualWithin c.most_amount-most.result) is within))

pub add-requires-clause-dual : goal.add-requires-clause-dual
add-requires-clause-dual c =
    wider_range c.args.instance.now.size most_nodes c.in-Some.dual c.size-n.ensures.problem.size_limit
    (range (goal.at.add-requires-clause-dual c).In-Some)

pub returns-in-None-clause-none : goal.returns-in-None-clause-none
returns-in-None-clause-none c _ fit =
    let p = c.args.instance.now in
    let e = c.args.part in
    let f = c.index-founds-t.result in
    let most = c.most_amount-most.result in
    let before = (goal.at.returns-in-None-clause-none c).After-index-founds-t in
    let one = subst (λ (w : ℕ). (most ≡ most_units * w) ⊎ (most ≡ e * most_cost)) (carried before) c.most_amount-most.ensures.one in
    c.in_ok-dual.ensures.none c.in-None.is
    (subst (λ (g : FoundDual). IsDualWithin most (brought e g)) (sym c.index-founds-t.is)
    (fit_within p e c.loop-t.t most c.args.founds.now f (there before) c.requires.one_each (sound before) one fit))

pub loop-t-preserved : goal.loop-t-preserved
loop-t-preserved c =
    let p = c.args.instance.now in
    let t = c.loop-t.t in
    let d = c.in-Some.dual in
    let before = (goal.at.loop-t-preserved c).After-index-founds-t in
    let is = subst (λ (o : Option Prices). IfSome o (λ d. d ≡ brought c.args.part c.index-founds-t.result)) c.in-Some.is c.in_ok-dual.ensures.is in
    let within = subst (λ (o : Option Prices). IfSome o (λ d. IsDualWithin c.most_amount-most.result d)) c.in-Some.is c.in_ok-dual.ensures.within in
    let units = subst (λ (w : ℕ). c.most_amount-most.result ≤ most_units * w) (carried before) c.most_amount-most.ensures.units in
    brought_next p c.args.part t c.args.founds.now c.index-founds-t.result c.loop-t.cut c.add.new.self d (below before) c.requires.one_each
    c.loop-t.invariant
    (is ∙ ap (brought c.args.part) c.index-founds-t.is) (range (goal.at.loop-t-preserved c).In-Some)
    (within_fit p c.most_amount-most.result (t / p.size, t % p.size) d units within) c.in_ok-add-in-Some.ensures

pub returns-clause-fit : goal.returns-clause-fit
returns-clause-fit c =
    let end = ap (λ (n : ℕ). n * n) c.size-n.ensures.value in
    (brought_all c.args.instance.now c.args.part c.loop-t.t c.args.founds.now c.loop-t.cut (omega (arith, end)) c.requires.one_each
    c.loop-t.invariant).1
