use Rattle.std.proofs.Common.{ℕ, List, sym, subst}
use Rattle.hub_spec.specs.Plans.{IsHubSet, IsSetCost}
use Rattle.ascent_search.proofs.Findings.{as_wanted}
use Rattle.ascent_search.proofs.progress.offer_nodes.Goals as goal

pub cost_of_set-cost-requires : goal.cost_of_set-cost-requires
cost_of_set-cost-requires c =
    let p = c.args.task.now.instance.now in
    let is = as_wanted p c.args.hubs.now c.in_ok-set.field-0 c.in-Some.set c.in-Some.is c.in_ok-set.ensures.set in
    subst (IsHubSet p) (sym c.members.ensures.value) is.wanted.is_set

pub offer-requires-clause-set : goal.offer-requires-clause-set
offer-requires-clause-set c =
    let p = c.args.task.now.instance.now in
    let is = as_wanted p c.args.hubs.now c.in_ok-set.field-0 c.in-Some.set c.in-Some.is c.in_ok-set.ensures.set in is.wanted.is_set

pub offer-requires-clause-wanted : goal.offer-requires-clause-wanted
offer-requires-clause-wanted c =
    let p = c.args.task.now.instance.now in
    let is = as_wanted p c.args.hubs.now c.in_ok-set.field-0 c.in-Some.set c.in-Some.is c.in_ok-set.ensures.set in is.wanted.wanted

pub offer-requires-clause-cost : goal.offer-requires-clause-cost
offer-requires-clause-cost c =
    let p = c.args.task.now.instance.now in
    subst (λ (hubs : List ℕ). IsSetCost p hubs c.cost_of_set-cost.result) c.members.ensures.value c.cost_of_set-cost.ensures.value
