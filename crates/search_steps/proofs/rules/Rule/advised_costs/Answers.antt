use Rattle.std.proofs.Common.{◌≡◌, ℕ, ◌+◌, ◌/◌, ◌≤◌, List, [], ◌∷◌, ◌++◌, get_or, length, map, take, Option, Some, None, ap, sym, subst, ◌∙◌, arith}
use Rattle.std.specs.Prelude.{IfSome}
use Rattle.std.proofs.lemmas.List.{take_more, take_all, map-append}
use Rattle.search_steps.specs.Advising.{with_share}
use Rattle.search_steps.proofs.rules.Rule.advised_costs.Goals as goal

pub returns-in_default-clause-costs : goal.returns-in_default-clause-costs
returns-in_default-clause-costs g c =
    let p = c.args.instance.now in
    let any : None ≡ p.wanted = sym c.in_default.is ∙ c.wanted.ensures p c.requires.serves in
    c.fixed_costs-fixed.ensures.value ∙ ap (λ (o : Option ℕ). with_share o c.args.cost p.fixed_costs) any

pub nonzero_div-share : goal.nonzero_div-share
nonzero_div-share g c =
    let p = c.args.instance.now in
    let limit = subst (λ (o : Option ℕ). IfSome o (λ n. (1 ≤ n) × (n ≤ length p.candidates))) (sym (c.wanted.ensures p c.requires.serves) ∙ c.in-Some.is)
    c.fixed_costs-fixed.ensures.problem.wanted_limit in
    omega (arith, limit.0)

pub loop-own-init : goal.loop-own-init
loop-own-init g c = c.clear.ensures.items

pub loop-own-preserved : goal.loop-own-preserved
loop-own-preserved g c =
    let fixed = c.fixed_costs-fixed.result.now in
    let share : ℕ → ℕ = λ f. f + c.args.cost / c.in-Some.hubs in
    c.in_ok-push.ensures.items ∙ ap (λ (xs : List ℕ). xs ++ share (get_or fixed c.loop-own.own-index 0) ∷ []) c.loop-own.invariant
    ∙ sym (ap (map share) (take_more fixed c.loop-own.own-index 0 c.loop-own-test.true)
    ∙ map-append share (take c.loop-own.own-index fixed) (get_or fixed c.loop-own.own-index 0 ∷ []))

pub returns-clause-costs : goal.returns-clause-costs
returns-clause-costs g c =
    let p = c.args.instance.now in
    let fixed = c.fixed_costs-fixed.result.now in
    let share : ℕ → ℕ = λ f. f + c.args.cost / c.in-Some.hubs in
    let some : Some c.in-Some.hubs ≡ p.wanted = sym c.in-Some.is ∙ c.wanted.ensures p c.requires.serves in
    let whole : take c.loop-own.own-index fixed ≡ fixed = take_all c.loop-own.own-index fixed c.loop-own-test.false in
    c.deref.ensures.value ∙ c.loop-own.invariant ∙ ap (map share) (whole ∙ c.fixed_costs-fixed.ensures.value)
    ∙ ap (λ (o : Option ℕ). with_share o c.args.cost p.fixed_costs) some
