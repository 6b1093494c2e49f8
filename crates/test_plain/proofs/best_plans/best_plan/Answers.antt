use Rattle.std.proofs.Common.{List, ℕ, subst, sym, ◌∙◌}
use Rattle.test_plain.specs.AllSets.{AreFirstHubs, NoneCheaper}
use Rattle.test_plain.proofs.AllSets.{first_hubs_none, found_is_best}
use Rattle.test_plain.proofs.best_plans.best_plan.Goals as goal

pub best_with-requires-clause-inside : goal.best_with-requires-clause-inside
best_with-requires-clause-inside c =
    subst (AreFirstHubs c.args.instance.now.candidates 0) (sym (c.deref.ensures.value ∙ c.new-none.ensures.items))
    (first_hubs_none c.args.instance.now.candidates)

pub returns : goal.returns
returns c =
    found_is_best c.args.instance.now c.in_ok-best.best c.candidates-candidates.ensures.problem c.in_ok-best.ensures.plan
    (subst (λ (hs : List ℕ). NoneCheaper c.args.instance.now 0 hs c.in_ok-best.best) (c.deref.ensures.value ∙ c.new-none.ensures.items)
    c.in_ok-best.ensures.least)
