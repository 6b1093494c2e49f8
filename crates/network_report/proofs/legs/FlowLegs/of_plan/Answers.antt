use Rattle.std.proofs.Common.{◌+◌, ◌∙◌, sum_by, sym, ap, arith}
use Rattle.network_report.specs.Parts.{collection_leg, trunk_leg, delivery_leg}
use Rattle.network_report.proofs.PlanParts.{few, ends_here, leg_more, leg_fits, all_routed, parts_limit}
use Rattle.network_report.proofs.legs.FlowLegs.of_plan.Goals as goal

pub overflow_cast-t : goal.overflow_cast-t
overflow_cast-t c =
    omega (arith, few c.args.instance.now c.args.plan.now c.routes-route-items.result.now c.loop-t.t c.requires c.routes-route-items.ensures c.size-n.ensures.problem (omega arith))

pub overflow_cast-t-in-loop-t : goal.overflow_cast-t-in-loop-t
overflow_cast-t-in-loop-t c =
    omega (arith, few c.args.instance.now c.args.plan.now c.routes-route-items.result.now c.loop-t.t c.requires c.routes-route-items.ensures c.size-n.ensures.problem (omega arith))

pub of_route-legs-requires-clause-from : goal.of_route-legs-requires-clause-from
of_route-legs-requires-clause-from c =
    let ends = ends_here c.args.instance.now c.args.plan.now c.routes-route-items.result.now c.loop-t.t c.requires c.routes-route-items.ensures c.size-n.ensures.problem (omega arith) in
    rw c.size-n.ensures.value ends.from

pub of_route-legs-requires-clause-first : goal.of_route-legs-requires-clause-first
of_route-legs-requires-clause-first c =
    let ends = ends_here c.args.instance.now c.args.plan.now c.routes-route-items.result.now c.loop-t.t c.requires c.routes-route-items.ensures c.size-n.ensures.problem (omega arith) in
    ends.first

pub of_route-legs-requires-clause-last : goal.of_route-legs-requires-clause-last
of_route-legs-requires-clause-last c =
    let ends = ends_here c.args.instance.now c.args.plan.now c.routes-route-items.result.now c.loop-t.t c.requires c.routes-route-items.ensures c.size-n.ensures.problem (omega arith) in
    ends.last

pub overflow_add-sum : goal.overflow_add-sum
overflow_add-sum c =
    let more = rw c.size-n.ensures.value at c.of_route-legs.ensures.collection in
    let fits = leg_fits c.args.instance.now c.args.plan.now c.routes-route-items.result.now c.loop-t.t c.requires c.routes-route-items.ensures (collection_leg c.args.instance.now) (omega arith) in
    omega (arith, c.loop-t.invariant.collected, more, fits, parts_limit c.args.instance.now c.args.plan.now c.size-n.ensures.problem c.requires)

pub overflow_add-sum-in-loop-t : goal.overflow_add-sum-in-loop-t
overflow_add-sum-in-loop-t c =
    let more = rw c.size-n.ensures.value at c.of_route-legs.ensures.trunk in
    let fits = leg_fits c.args.instance.now c.args.plan.now c.routes-route-items.result.now c.loop-t.t c.requires c.routes-route-items.ensures (trunk_leg c.args.instance.now) (omega arith) in
    omega (arith, c.loop-t.invariant.carried, more, fits, parts_limit c.args.instance.now c.args.plan.now c.size-n.ensures.problem c.requires)

pub overflow_add-sum-in-loop-t-2 : goal.overflow_add-sum-in-loop-t-2
overflow_add-sum-in-loop-t-2 c =
    let more = rw c.size-n.ensures.value at c.of_route-legs.ensures.delivery in
    let fits = leg_fits c.args.instance.now c.args.plan.now c.routes-route-items.result.now c.loop-t.t c.requires c.routes-route-items.ensures (delivery_leg c.args.instance.now) (omega arith) in
    omega (arith, c.loop-t.invariant.delivered, more, fits, parts_limit c.args.instance.now c.args.plan.now c.size-n.ensures.problem c.requires)

pub loop-t-preserved : goal.loop-t-preserved
loop-t-preserved c = record {
  collected =
      let more = rw c.size-n.ensures.value at c.of_route-legs.ensures.collection in
      (λ x. c.loop-t.invariant.collected x + more x) ∙ sym (leg_more c.args.instance.now c.args.plan.now c.routes-route-items.result.now c.loop-t.t c.requires c.routes-route-items.ensures (collection_leg c.args.instance.now) (omega arith));
  carried =
      let more = rw c.size-n.ensures.value at c.of_route-legs.ensures.trunk in
      (λ x. c.loop-t.invariant.carried x + more x) ∙ sym (leg_more c.args.instance.now c.args.plan.now c.routes-route-items.result.now c.loop-t.t c.requires c.routes-route-items.ensures (trunk_leg c.args.instance.now) (omega arith));
  delivered =
      let more = rw c.size-n.ensures.value at c.of_route-legs.ensures.delivery in
      (λ x. c.loop-t.invariant.delivered x + more x) ∙ sym (leg_more c.args.instance.now c.args.plan.now c.routes-route-items.result.now c.loop-t.t c.requires c.routes-route-items.ensures (delivery_leg c.args.instance.now) (omega arith));
}

pub returns-clause-collection : goal.returns-clause-collection
returns-clause-collection c =
    c.loop-t.invariant.collected ∙ ap (sum_by (collection_leg c.args.instance.now)) (all_routed c.args.instance.now c.args.plan.now c.routes-route-items.result.now c.loop-t.t c.requires c.routes-route-items.ensures (omega arith))

pub returns-clause-trunk : goal.returns-clause-trunk
returns-clause-trunk c =
    c.loop-t.invariant.carried ∙ ap (sum_by (trunk_leg c.args.instance.now)) (all_routed c.args.instance.now c.args.plan.now c.routes-route-items.result.now c.loop-t.t c.requires c.routes-route-items.ensures (omega arith))

pub returns-clause-delivery : goal.returns-clause-delivery
returns-clause-delivery c =
    c.loop-t.invariant.delivered ∙ ap (sum_by (delivery_leg c.args.instance.now)) (all_routed c.args.instance.now c.args.plan.now c.routes-route-items.result.now c.loop-t.t c.requires c.routes-route-items.ensures (omega arith))
