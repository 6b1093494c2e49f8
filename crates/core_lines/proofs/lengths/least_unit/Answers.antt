use Rattle.std.proofs.Common.{ℕ, subst, arith}
use Rattle.core_lines.specs.LineParts.{IsLeastFrom}
use Rattle.core_lines.proofs.LeastUnits.{over_one, over_more, over_all}
use Rattle.core_lines.proofs.lengths.least_unit.Goals as goal

pub loop-x-init : goal.loop-x-init
loop-x-init c =
    let p = c.args.instance.now in
    record {
      some = omega arith;
      least = over_one p (c.args.i, c.args.j) c.args.hubs.now c.least_from-least.result c.requires.set.some_hub
          (subst (λ (k : ℕ). IsLeastFrom p (c.args.i, c.args.j) k c.args.hubs.now c.least_from-least.result) c.hub.ensures.value c.least_from-least.ensures.least);
      limit = c.least_from-least.ensures.limit;
    }

pub loop-x-preserved : goal.loop-x-preserved
loop-x-preserved c =
    let p = c.args.instance.now in
    record {
      some = omega arith;
      least = over_more p (c.args.i, c.args.j) c.args.hubs.now c.loop-x.x c.loop-x.least c.least_from.result c.min-least.result
          c.loop-x-test.true c.loop-x.invariant.least
          (subst (λ (k : ℕ). IsLeastFrom p (c.args.i, c.args.j) k c.args.hubs.now c.least_from.result) c.hub-in-loop-x.ensures.value c.least_from.ensures.least)
          c.min-least.ensures;
      limit = omega (arith, c.min-least.ensures, c.loop-x.invariant.limit);
    }

pub returns-clause-cost : goal.returns-clause-cost
returns-clause-cost c =
    over_all c.args.instance.now (c.args.i, c.args.j) c.args.hubs.now c.loop-x.x c.loop-x.least c.requires.any_length
    (omega (arith, c.loop-x-test.false)) c.loop-x.invariant.least
