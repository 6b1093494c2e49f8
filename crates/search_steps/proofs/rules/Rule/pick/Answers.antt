use Rattle.std.proofs.Common.{Option, ℕ, ◌-◌, ℤ, pos, List, length, take, get_or, Some, None, ap, sym, subst, ◌∙◌, arith}
use Rattle.std.proofs.lemmas.Result.{IfOk-weaker}
use Rattle.hub_spec.specs.Trees.{HasRoom}
use Rattle.frac_master.specs.Advice.{advice_of_code}
use Rattle.search_spec.specs.Choices.{by_falling, with_nodes, pick_for}
use Rattle.search_steps.specs.Advising.{told_by}
use Rattle.search_steps.proofs.RuleChoices.{free_without, room_when, between, pick_is, pick_is_set}
use Rattle.search_steps.proofs.rules.Rule.pick.Goals as goal

-- ---- any number of hubs

pub pick_any-requires-clause-some_free : goal.pick_any-requires-clause-some_free
pick_any-requires-clause-some_free g c =
    let p = c.args.instance.now in
    free_without p c.args.branch.now (sym (c.wanted.ensures p c.requires.serves) ∙ c.in-None.is) c.requires.goes_on.only

pub returns-in-None-clause-picked : goal.returns-in-None-clause-picked
returns-in-None-clause-picked g c =
    let p = c.args.instance.now in
    IfOk-weaker c.pick_any.result _ _
    (λ set is. is ∙ pick_is p None (told_by (advice_of_code c.args.advice.now)) c.args.branch.now
    (sym (c.wanted.ensures p c.requires.serves) ∙ c.in-None.is)) c.pick_any.ensures

pub returns-in-None-clause-set : goal.returns-in-None-clause-set
returns-in-None-clause-set g c = λ ok.
    IfOk-weaker c.pick_any.result _ _
    (λ set is. pick_is_set c.args.instance.now (told_by (advice_of_code c.args.advice.now)) c.args.branch.now set ok c.requires.branch c.requires.goes_on is)
    (returns-in-None-clause-picked g c)

-- ---- exactly p hubs

pub pick-requires-clause-some : goal.pick-requires-clause-some
pick-requires-clause-some g c =
    let p = c.args.instance.now in
    let is = between c.in-Some.hubs p c.args.branch.now (sym (c.wanted.ensures p c.requires.serves) ∙ c.in-Some.is) c.requires.goes_on in
    omega (arith, is.missing)

pub pick-requires-clause-room : goal.pick-requires-clause-room
pick-requires-clause-room g c =
    let p = c.args.instance.now in
    subst (λ (o : Option ℕ). HasRoom o c.args.branch.now) (sym (c.wanted.ensures p c.requires.serves) ∙ c.in-Some.is)
    (room_when p c.args.branch.now c.requires.goes_on.barren)

pub returns-in-Some-clause-picked : goal.returns-in-Some-clause-picked
unfolding pick_for
returns-in-Some-clause-picked g c =
    let p = c.args.instance.now in
    let n = c.in-Some.hubs in
    let b = c.args.branch.now in
    let set_by : List ℤ → List ℕ = λ point. with_nodes (take (n - length b.inside) (by_falling (λ k. get_or point k (pos 0)) b.free)) b.inside in
    IfOk-weaker c.pick.result _ _
    (λ set is. is ∙ ap set_by c.deref.ensures.value
    ∙ pick_is p (Some n) (told_by (advice_of_code c.args.advice.now)) b (sym (c.wanted.ensures p c.requires.serves) ∙ c.in-Some.is))
    c.pick.ensures

pub returns-in-Some-clause-set : goal.returns-in-Some-clause-set
returns-in-Some-clause-set g c = λ ok.
    IfOk-weaker c.pick.result _ _
    (λ set is. pick_is_set c.args.instance.now (told_by (advice_of_code c.args.advice.now)) c.args.branch.now set ok c.requires.branch c.requires.goes_on is)
    (returns-in-Some-clause-picked g c)
