use Rattle.std.proofs.Common.{ℕ, List, subst, sym, ◌∙◌}
use Rattle.hub_spec.specs.Plans.{IsHubSet, IsSetCost}
use Rattle.ascent_search.specs.Progressing.{AreFirstHubs}
use Rattle.ascent_search.proofs.BranchEnds.{first_are}
use Rattle.ascent_search.proofs.Findings.{as_wanted, first_alone}
use Rattle.ascent_search.proofs.optimizing.first_incumbent.Goals as goal
use Rattle.ascent_search.proofs.optimizing.first_incumbent.Goals.{After-first_hubs}

-- they are those with which a search begins that gets none
firsts : (c : After-first_hubs) → AreFirstHubs c.args.task.now.instance.now c.first_hubs.result.now
firsts c = first_are c.args.task.now.instance.now c.first_hubs.result.now c.first_hubs.ensures.problem c.requires.lacks_none c.first_hubs.ensures.first

pub of-requires-clause-some_node : goal.of-requires-clause-some_node
of-requires-clause-some_node c = (firsts (goal.at.of-requires-clause-some_node c).After-first_hubs).set.is_set.some_hub

pub of-requires-clause-ascend : goal.of-requires-clause-ascend
of-requires-clause-ascend c = (firsts (goal.at.of-requires-clause-ascend c).After-first_hubs).set.is_set.ascend

pub cost_of_set-cost-requires : goal.cost_of_set-cost-requires
cost_of_set-cost-requires c =
    subst (IsHubSet c.args.task.now.instance.now) (sym (c.members.ensures.value ∙ c.in_ok-hubs.ensures))
    (firsts (goal.at.cost_of_set-cost-requires c).After-first_hubs).set.is_set

pub returns-in-None-clause-first : goal.returns-in-None-clause-first
returns-in-None-clause-first c =
    let p = c.args.task.now.instance.now in
    first_alone c.args.task.now c.in_ok-hubs.hubs c.cost_of_set-cost.result
    (subst (AreFirstHubs p) (sym c.in_ok-hubs.ensures) (firsts (goal.at.returns-in-None-clause-first c).After-first_hubs))
    (subst (λ (hubs : List ℕ). IsSetCost p hubs c.cost_of_set-cost.result) c.members.ensures.value c.cost_of_set-cost.ensures.value)
    (c.in_ok-told.ensures.none c.in-None.is)

pub cheaper-requires-clause-first : goal.cheaper-requires-clause-first
cheaper-requires-clause-first c =
    subst (AreFirstHubs c.args.task.now.instance.now) (sym c.in_ok-hubs.ensures)
    (firsts (goal.at.cheaper-requires-clause-first c).After-first_hubs)

pub cheaper-requires-clause-cost : goal.cheaper-requires-clause-cost
cheaper-requires-clause-cost c =
    let p = c.args.task.now.instance.now in
    subst (λ (hubs : List ℕ). IsSetCost p hubs c.cost_of_set-cost.result) c.members.ensures.value c.cost_of_set-cost.ensures.value

pub cheaper-requires-clause-given : goal.cheaper-requires-clause-given
cheaper-requires-clause-given c =
    let t = c.args.task.now in as_wanted t.instance.now t.first.now c.in_ok-told.told c.in-Some.given c.in-Some.is c.in_ok-told.ensures.set
