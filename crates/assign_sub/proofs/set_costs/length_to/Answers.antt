use Rattle.std.proofs.Common.{ℕ, ◌+◌, ◌*◌, slice_index, sym, ap₂, ◌∙◌, arith}
use Rattle.hub_spec.proofs.BestRoutes.{hub_is_node}
use Rattle.unit_duals.proofs.LeastNumbers.{least_of-none, least_step, least_all}
use Rattle.assign_sub.specs.LeastLengths.{length_by, least_length}
use Rattle.assign_sub.proofs.UnitCosts.{reach_limit, deliver_limit}
use Rattle.assign_sub.proofs.set_costs.length_to.Goals as goal

pub overflow_add-least : goal.overflow_add-least
overflow_add-least c =
    let p = c.args.instance.now in
    let hubs = c.args.hubs.now in
    let k = slice_index hubs 0 in
    let node = hub_is_node p hubs 0 c.requires.problem c.requires.set c.requires.set.some_hub in
    let leg = ap₂ (λ (a b : ℕ). a * b) c.deliver-factor.ensures.value c.distance_between.ensures.value in
    omega (
      arith,
      leg,
      c.requires.reaches.each 0 c.requires.set.some_hub,
      reach_limit p hubs c.args.i k c.requires.problem c.requires.set c.requires.from node,
      deliver_limit p k c.args.j c.requires.problem node c.requires.to,
    )

pub loop-y-init : goal.loop-y-init
loop-y-init c =
    let f = length_by c.args.instance.now c.args.hubs.now c.args.i c.args.j in
    let leg = ap₂ (λ (a b : ℕ). a * b) c.deliver-factor.ensures.value c.distance_between.ensures.value in
    ap₂ (λ (a b : ℕ). a + b) (c.requires.reaches.each 0 c.requires.set.some_hub) leg ∙ sym (least_of-none (f 0) f)

pub distance_between-requires-in-loop-y-clause-from : goal.distance_between-requires-in-loop-y-clause-from
distance_between-requires-in-loop-y-clause-from c =
    hub_is_node c.args.instance.now c.args.hubs.now c.loop-y.y c.requires.problem c.requires.set c.loop-y-test.true

pub overflow_add-reaches : goal.overflow_add-reaches
overflow_add-reaches c =
    let p = c.args.instance.now in
    let hubs = c.args.hubs.now in
    let k = slice_index hubs c.loop-y.y in
    let node = hub_is_node p hubs c.loop-y.y c.requires.problem c.requires.set c.loop-y-test.true in
    let leg = ap₂ (λ (a b : ℕ). a * b) c.deliver-factor.ensures.value c.distance_between-in-loop-y.ensures.value in
    omega (
      arith,
      leg,
      c.requires.reaches.each c.loop-y.y c.loop-y-test.true,
      reach_limit p hubs c.args.i k c.requires.problem c.requires.set c.requires.from node,
      deliver_limit p k c.args.j c.requires.problem node c.requires.to,
    )

pub loop-y-preserved : goal.loop-y-preserved
loop-y-preserved c =
    let f = length_by c.args.instance.now c.args.hubs.now c.args.i c.args.j in
    let leg = ap₂ (λ (a b : ℕ). a * b) c.deliver-factor.ensures.value c.distance_between-in-loop-y.ensures.value in
    least_step (f 0) f c.loop-y.y c.loop-y.least _ c.min-least.result c.loop-y.invariant
    (ap₂ (λ (a b : ℕ). a + b) (c.requires.reaches.each c.loop-y.y c.loop-y-test.true) leg) c.min-least.ensures

pub returns : goal.returns
unfolding least_length
returns c =
    let f = length_by c.args.instance.now c.args.hubs.now c.args.i c.args.j in
    least_all (f 0) f c.loop-y.y _ c.loop-y.least c.loop-y.invariant (omega arith)
