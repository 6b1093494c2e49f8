use Rattle.std.proofs.Common.{◌≡◌, ℕ, List, ap, sym, subst, ◌∙◌, rules}
use Rattle.hub_spec.specs.Plans.{IsWanted}
use Rattle.hub_model.proofs.Assigned.{assigned_plan, assigned_cost}
use Rattle.test_plain.proofs.best_plans.plan_with.Goals as goal
use Rattle.test_plain.proofs.best_plans.plan_with.Goals.{After-new}

made : (c : After-new) → c.new.result ≡ record { hubs = c.args.hubs.now; routes = c.in_ok-assignment.assignment.routes.items }
made c =
    let same : c.in_ok-to_vec.field-0.items ≡ c.args.hubs.now = search rules in
    c.new.ensures ∙ ap (λ (hs : List ℕ). record { hubs = hs; routes = c.in_ok-assignment.assignment.routes.items }) same

pub returns-clause-plan : goal.returns-clause-plan
returns-clause-plan c =
    let same = made (goal.at.returns-clause-plan c).After-new in
    record {
      is_plan = assigned_plan c.args.instance.now c.args.hubs.now c.in_ok-assignment.assignment.routes.items c.new.result c.requires.set
          c.in_ok-assignment.ensures.routes same;
      wanted = subst (IsWanted c.args.instance.now) (sym same) c.requires.wanted;
    }

pub returns-clause-cost : goal.returns-clause-cost
returns-clause-cost c =
    assigned_cost c.args.instance.now c.args.hubs.now c.in_ok-assignment.assignment.routes.items c.new.result c.requires.set
    c.in_ok-assignment.ensures.routes (made (goal.at.returns-clause-cost c).After-new)
