use Rattle.std.proofs.Common.{ℕ, ◌/◌, ◌≤◌, ap₂, sym, subst}
use Rattle.core_cuts.proofs.Found.{right_limit}
use Rattle.core_cuts.specs.Bodies.{most_unit}
use Rattle.core_cuts.proofs.edges.needed_right.Goals as goal
use Rattle.core_cuts.proofs.edges.needed_right.Goals.{After-flow_between}

within : (c : After-flow_between) → c.pair_cost-cost.result / c.flow_between.result ≤ most_unit
within c =
    subst (λ (n : ℕ). n ≤ most_unit) (sym (ap₂ ◌/◌ c.pair_cost-cost.ensures c.flow_between.ensures.value))
    (right_limit c.args.commodity.now.instance.now (c.args.commodity.now.i, c.args.commodity.now.j) (c.args.k, c.args.m) c.size.ensures.problem c.requires.commodity.any_length
    c.requires.commodity.from c.requires.commodity.to c.requires.first c.requires.last)

pub by_unit-requires : goal.by_unit-requires
by_unit-requires c = within (goal.at.by_unit-requires c).After-flow_between

pub returns-then-cost-at_m-clause-limit : goal.returns-then-cost-at_m-clause-limit
returns-then-cost-at_m-clause-limit c =
    subst (λ (n : ℕ). n ≤ most_unit) (sym c.by_unit.ensures) (within (goal.at.returns-then-cost-at_m-clause-limit c).After-flow_between)
