use Rattle.std.proofs.Common.{◌≡◌, ℕ, [], Some, None, Vec, Global, ap, sym, ◌∙◌}
use Rattle.std.proofs.lemmas.Result.{IfOk-weaker}
use Rattle.leaf_bound.specs.Numbers.{weighting_of}
use Rattle.leaf_bound.specs.declared.sides.Side.{Side}
use Rattle.hub_fixing.specs.Fixing as any
use Rattle.p_hub.specs.Fixing.{counted_fixings}
use Rattle.search_spec.specs.Steps as steps
use Rattle.search_steps.specs.Pools.{InEachStateAt}
use Rattle.search_steps.specs.Weights.{pairs_of, sides_as}
use Rattle.search_steps.proofs.RuleChoices.{between}
use Rattle.search_steps.proofs.Weighed.{weighting_numbers, weighted_within, lent_closes, lent_sides}
use Rattle.search_steps.proofs.rules.Rule.fixings.Goals as goal

-- ---- any number of hubs

pub fix-requires-clause-numbers : goal.fix-requires-clause-numbers
fix-requires-clause-numbers g c = weighting_numbers c.args.weighed.now c.weighting-lent.result c.weighting-lent.ensures

pub fix-requires-clause-nodes : goal.fix-requires-clause-nodes
fix-requires-clause-nodes g c =
    weighted_within c.args.weighed.now c.weighting-lent.result c.args.branch.now c.weighting-lent.ensures c.requires.branch

pub fix-requires-clause-not_closed : goal.fix-requires-clause-not_closed
fix-requires-clause-not_closed g c =
    let w = c.args.weighed.now in
    lent_closes None w c.weighting-lent.result c.args.branch.now c.args.cost (sym (c.wanted.ensures w.instance.now c.requires.serves) ∙ c.in-None.is)
    c.weighting-lent.ensures c.requires.branch [] 0 None
    ∙ c.requires.not_closed [] 0 None

pub returns-in-None : goal.returns-in-None
returns-in-None g c =
    let w = c.args.weighed.now in
    let p = w.instance.now in
    let b = c.args.branch.now in
    let m = c.weighting-lent.result in
    let cost = c.args.cost in
    IfOk-weaker c.fix.result (λ (v : Vec (ℕ × Side) Global). v.items ≡ any.fixings (weighting_of m) cost b)
    (λ (v : Vec (ℕ × Side) Global). InEachStateAt p w.pool.now.entries cost (λ s. sides_as v.items ≡ steps.fixings p s b (pairs_of w.weights.now)))
    (λ v is hubs made stop. ap sides_as is ∙ lent_sides None w m b cost (sym (c.wanted.ensures p c.requires.serves) ∙ c.in-None.is)
    c.weighting-lent.ensures c.requires.branch hubs made stop)
    c.fix.ensures

-- ---- exactly p hubs

pub fix_p-requires-clause-numbers : goal.fix_p-requires-clause-numbers
fix_p-requires-clause-numbers g c = weighting_numbers c.args.weighed.now c.weighting-lent.result c.weighting-lent.ensures

pub fix_p-requires-clause-nodes : goal.fix_p-requires-clause-nodes
fix_p-requires-clause-nodes g c =
    weighted_within c.args.weighed.now c.weighting-lent.result c.args.branch.now c.weighting-lent.ensures c.requires.branch

pub fix_p-requires-clause-between : goal.fix_p-requires-clause-between
fix_p-requires-clause-between g c =
    let p = c.args.weighed.now.instance.now in
    between c.in-Some.hubs p c.args.branch.now (sym (c.wanted.ensures p c.requires.serves) ∙ c.in-Some.is) c.requires.goes_on

pub fix_p-requires-clause-not_closed : goal.fix_p-requires-clause-not_closed
fix_p-requires-clause-not_closed g c =
    let w = c.args.weighed.now in
    lent_closes (Some c.in-Some.hubs) w c.weighting-lent.result c.args.branch.now c.args.cost
    (sym (c.wanted.ensures w.instance.now c.requires.serves) ∙ c.in-Some.is) c.weighting-lent.ensures c.requires.branch [] 0 None
    ∙ c.requires.not_closed [] 0 None

pub returns-in-Some : goal.returns-in-Some
returns-in-Some g c =
    let w = c.args.weighed.now in
    let p = w.instance.now in
    let b = c.args.branch.now in
    let m = c.weighting-lent.result in
    let cost = c.args.cost in
    IfOk-weaker c.fix_p.result (λ (v : Vec (ℕ × Side) Global). v.items ≡ counted_fixings c.in-Some.hubs (weighting_of m) cost b)
    (λ (v : Vec (ℕ × Side) Global). InEachStateAt p w.pool.now.entries cost (λ s. sides_as v.items ≡ steps.fixings p s b (pairs_of w.weights.now)))
    (λ v is hubs made stop. ap sides_as is
    ∙ lent_sides (Some c.in-Some.hubs) w m b cost (sym (c.wanted.ensures p c.requires.serves) ∙ c.in-Some.is)
    c.weighting-lent.ensures c.requires.branch hubs made stop)
    c.fix_p.ensures
