use Rattle.std.proofs.Common.{sym, subst, ◌∙◌, arith}
use Rattle.std.proofs.lemmas.Result.{IfOk-weaker}
use Rattle.hub_spec.specs.Plans.{IsCandidateSet}
use Rattle.frac_master.specs.Advice.{advice_of_code}
use Rattle.p_hub.proofs.OpenBranches.{open_set}
use Rattle.search_steps.specs.Advising.{told_by}
use Rattle.search_steps.proofs.OpenBranches.{picked_serves, picked_lacks}
use Rattle.search_steps.proofs.picking.pick_any.Goals as goal
use Rattle.search_steps.proofs.picking.pick_any.Goals.{After-deref, After-deref-2}

-- the set that is picked by the point alone, and all open nodes
picked : (c : After-deref) → IsCandidateSet c.args.instance.now c.deref.result.now
picked c = subst (IsCandidateSet c.args.instance.now) (sym c.deref.ensures.value) (c.in_ok-picked.ensures.set c.requires.some_free)

opened : (c : After-deref-2) → IsCandidateSet c.args.instance.now c.deref-2.result.now
opened c =
    let p = c.args.instance.now in
    let b = c.args.branch.now in
    subst (IsCandidateSet p) (sym (c.deref-2.ensures.value ∙ c.in_ok-open.ensures)) (open_set p b c.requires.branch (omega (arith, c.requires.some_free)))

pub of-requires-clause-some_node : goal.of-requires-clause-some_node
of-requires-clause-some_node c = (picked c).some_hub

pub of-requires-clause-ascend : goal.of-requires-clause-ascend
of-requires-clause-ascend c = (picked c).ascend

pub lacking-requires : goal.lacking-requires
lacking-requires c =
    subst (IsCandidateSet c.args.instance.now) (sym c.in_ok-set.ensures) (picked (goal.at.lacking-requires c).After-deref)

pub returns-then-is_none : goal.returns-then-is_none
returns-then-is_none c =
    picked_serves c.args.instance.now (told_by (advice_of_code c.args.advice.now)) c.args.branch.now c.in_ok-set.set c.lacking.result
    (c.in_ok-set.ensures ∙ c.deref.ensures.value ∙ c.in_ok-picked.ensures.picked) c.lacking.ensures c.if-is_none.ensures

pub of-requires-2-clause-some_node : goal.of-requires-2-clause-some_node
of-requires-2-clause-some_node c = (opened c).some_hub

pub of-requires-2-clause-ascend : goal.of-requires-2-clause-ascend
of-requires-2-clause-ascend c = (opened c).ascend

pub returns : goal.returns
returns c =
    let lacks = picked_lacks c.args.instance.now (told_by (advice_of_code c.args.advice.now)) c.args.branch.now c.in_ok-set.set c.lacking.result
    (c.in_ok-set.ensures ∙ c.deref.ensures.value ∙ c.in_ok-picked.ensures.picked) c.lacking.ensures c.if-is_none.ensures in
    IfOk-weaker c.of-2.result _ _ (λ set is. is ∙ c.deref-2.ensures.value ∙ c.in_ok-open.ensures ∙ lacks) c.of-2.ensures
