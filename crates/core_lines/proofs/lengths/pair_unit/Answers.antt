use Rattle.std.proofs.Common.{◌*◌, min, ap, ap₂, sym, ◌∙◌}
use Rattle.hub_spec.specs.Problem.{flow}
use Rattle.core_spec.proofs.EdgeCosts.{pair_cost_is}
use Rattle.core_spec.proofs.Lengths.{times_min}
use Rattle.core_lines.proofs.lengths.pair_unit.Goals as goal

pub returns-clause-cost : goal.returns-clause-cost
returns-clause-cost c = λ any.
    let w = flow c.args.instance.now c.args.i c.args.j in
    ap (λ n. w * n) c.min.ensures ∙ times_min w c.route_unit.result c.route_unit-2.result
    ∙ ap₂ min c.route_unit.ensures.cost c.route_unit-2.ensures.cost
    ∙ sym (pair_cost_is c.args.instance.now (c.args.i, c.args.j) c.args.k c.args.m any)
