use Rattle.std.proofs.Common.{ℕ, ◌/◌, ◌≤◌, ap₂, sym, ◌∙◌, subst}
use Rattle.core_cuts.proofs.Found.{right_limit}
use Rattle.core_cuts.specs.Bodies.{most_unit}
use Rattle.core_cuts.proofs.edges.edge_right.Goals as goal

pub by_unit-requires : goal.by_unit-requires
by_unit-requires c =
    subst (λ (n : ℕ). n ≤ most_unit) (sym (ap₂ ◌/◌ c.pair_cost-cost.ensures c.flow_between.ensures.value))
    (right_limit c.args.instance.now (c.args.i, c.args.j) (c.args.k, c.args.m) c.size.ensures.problem c.requires.any_length
    c.requires.from c.requires.to c.requires.first c.requires.last)

pub returns-clause-value : goal.returns-clause-value
returns-clause-value c = c.by_unit.ensures ∙ ap₂ ◌/◌ c.pair_cost-cost.ensures c.flow_between.ensures.value

pub returns-clause-limit : goal.returns-clause-limit
returns-clause-limit c =
    subst (λ (n : ℕ). n ≤ most_unit) (sym (returns-clause-value c))
    (right_limit c.args.instance.now (c.args.i, c.args.j) (c.args.k, c.args.m) c.size.ensures.problem c.requires.any_length
    c.requires.from c.requires.to c.requires.first c.requires.last)
