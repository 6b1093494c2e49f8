use Rattle.std.proofs.Common.{◌≡◌, ◌*◌, arith}
use Rattle.hub_spec.specs.Problem.{flow, distance}
use Rattle.network_report.proofs.PlanParts.{legs_limit}
use Rattle.network_report.proofs.legs.FlowLegs.of_route.Goals as goal

pub overflow_mul-result : goal.overflow_mul-result
overflow_mul-result c =
    let p = c.args.instance.now in
    let is : c.flow_between-flow.result * (c.collect.result * c.distance_between.result) ≡ flow p c.args.i c.args.j * (p.collect * distance p c.args.i c.args.route.0) =
    (λ x. c.flow_between-flow.ensures.value x * (c.collect.ensures.value x * c.distance_between.ensures.value x)) in
    omega (arith, is, legs_limit p c.args.i c.args.j c.args.route.0 c.args.route.1 c.requires.problem c.requires.from c.requires.to c.requires.first c.requires.last)

pub overflow_mul-result-2 : goal.overflow_mul-result-2
overflow_mul-result-2 c =
    let p = c.args.instance.now in
    let is : c.flow_between-flow.result * (c.trunk.result * c.distance_between-2.result) ≡ flow p c.args.i c.args.j * (p.trunk * distance p c.args.route.0 c.args.route.1) =
    (λ x. c.flow_between-flow.ensures.value x * (c.trunk.ensures.value x * c.distance_between-2.ensures.value x)) in
    omega (arith, is, legs_limit p c.args.i c.args.j c.args.route.0 c.args.route.1 c.requires.problem c.requires.from c.requires.to c.requires.first c.requires.last)

pub overflow_mul-result-3 : goal.overflow_mul-result-3
overflow_mul-result-3 c =
    let p = c.args.instance.now in
    let is : c.flow_between-flow.result * (c.deliver.result * c.distance_between-3.result) ≡ flow p c.args.i c.args.j * (p.deliver * distance p c.args.route.1 c.args.j) =
    (λ x. c.flow_between-flow.ensures.value x * (c.deliver.ensures.value x * c.distance_between-3.ensures.value x)) in
    omega (arith, is, legs_limit p c.args.i c.args.j c.args.route.0 c.args.route.1 c.requires.problem c.requires.from c.requires.to c.requires.first c.requires.last)
