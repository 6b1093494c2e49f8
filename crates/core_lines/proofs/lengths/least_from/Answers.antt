use Rattle.std.proofs.Common.{ℕ, ap, ◌∙◌, arith}
use Rattle.hub_spec.specs.Problem.{route_cost}
use Rattle.core_lines.proofs.LeastUnits.{from_one, from_more}
use Rattle.core_lines.proofs.lengths.least_from.Goals as goal

pub loop-x-init : goal.loop-x-init
loop-x-init c =
    let f = λ (m : ℕ). route_cost c.args.instance.now c.args.i c.args.j c.args.k m in
    record {
      some = omega arith;
      least = from_one c.args.instance.now (c.args.i, c.args.j) c.args.k c.args.hubs.now c.route_unit-least.result c.requires.set.some_hub
          (c.route_unit-least.ensures.cost ∙ ap f c.hub.ensures.value);
      limit = c.route_unit-least.ensures.limit;
    }

pub loop-x-preserved : goal.loop-x-preserved
loop-x-preserved c =
    let f = λ (m : ℕ). route_cost c.args.instance.now c.args.i c.args.j c.args.k m in
    record {
      some = omega arith;
      least = from_more c.args.instance.now (c.args.i, c.args.j) c.args.k c.args.hubs.now c.loop-x.x c.loop-x.least c.route_unit.result c.min-least.result
          c.loop-x-test.true c.loop-x.invariant.least (c.route_unit.ensures.cost ∙ ap f c.hub-in-loop-x.ensures.value) c.min-least.ensures;
      limit = omega (arith, c.min-least.ensures, c.loop-x.invariant.limit);
    }
