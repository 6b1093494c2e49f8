use Rattle.std.proofs.Common.{min, ap₂, sym, ◌∙◌}
use Rattle.core_spec.proofs.EdgeCosts.{pair_cost_is}
use Rattle.core_cuts.proofs.edges.pair_cost.Goals as goal

pub returns : goal.returns
returns c =
    c.min.ensures ∙ ap₂ min c.cost_of_route.ensures.value c.cost_of_route-2.ensures.value
    ∙ sym (pair_cost_is c.args.instance.now (c.args.i, c.args.j) c.args.k c.args.m c.requires.any_length)
