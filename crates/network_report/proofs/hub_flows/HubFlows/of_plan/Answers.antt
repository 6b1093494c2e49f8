use Rattle.std.proofs.Common.{◌+◌, ◌∙◌, ◌/◌, ◌%◌, get_or, cond, nat_eq, filter, sum_by, refl, sym, ap, arith}
use Rattle.std.proofs.lemmas.List.{length-set}
use Rattle.network_report.specs.Parts.{flow_on}
use Rattle.network_report.proofs.PlanParts.{Routed, few, ends_here, all_routed}
use Rattle.network_report.proofs.Handled.{flow_limit, flow_more, flow_fits, no_flow, added_at}
use Rattle.network_report.proofs.hub_flows.HubFlows.of_plan.Goals as goal

pub loop-t-init : goal.loop-t-init
loop-t-init c = record { room_collected = refl; room_delivered = refl; collected = λ k. no_flow 200 k; delivered = λ k. no_flow 200 k }

pub overflow_cast-t : goal.overflow_cast-t
overflow_cast-t c =
    omega (arith, few c.args.instance.now c.args.plan.now c.routes-route-items.result.now c.loop-t.t c.requires c.routes-route-items.ensures c.size-n.ensures.problem (omega arith))

pub overflow_cast-t-in-loop-t : goal.overflow_cast-t-in-loop-t
overflow_cast-t-in-loop-t c =
    omega (arith, few c.args.instance.now c.args.plan.now c.routes-route-items.result.now c.loop-t.t c.requires c.routes-route-items.ensures c.size-n.ensures.problem (omega arith))

pub flow_between-flow-requires-clause-from : goal.flow_between-flow-requires-clause-from
flow_between-flow-requires-clause-from c =
    let ends = ends_here c.args.instance.now c.args.plan.now c.routes-route-items.result.now c.loop-t.t c.requires c.routes-route-items.ensures c.size-n.ensures.problem (omega arith) in
    rw c.size-n.ensures.value ends.from

pub bounds-collected-route : goal.bounds-collected-route
bounds-collected-route c =
    let ends = ends_here c.args.instance.now c.args.plan.now c.routes-route-items.result.now c.loop-t.t c.requires c.routes-route-items.ensures c.size-n.ensures.problem (omega arith) in
    omega (arith, ends.first, c.size-n.ensures.problem.size_limit)

pub bounds-collected-route-in-loop-t : goal.bounds-collected-route-in-loop-t
bounds-collected-route-in-loop-t c =
    let ends = ends_here c.args.instance.now c.args.plan.now c.routes-route-items.result.now c.loop-t.t c.requires c.routes-route-items.ensures c.size-n.ensures.problem (omega arith) in
    omega (arith, ends.first, c.size-n.ensures.problem.size_limit)

pub overflow_add-collected : goal.overflow_add-collected
overflow_add-collected c =
    let k = (get_or c.routes-route-items.result.now c.loop-t.t (0, 0)).0 in
    let so_far = c.loop-t.invariant.collected k in
    let fits = flow_fits c.args.instance.now c.args.plan.now c.routes-route-items.result.now c.loop-t.t c.requires c.routes-route-items.ensures (λ (x : Routed). nat_eq x.1.0 k) c.size-n.ensures.problem (omega arith) in
    let most = flow_limit c.args.instance.now (c.loop-t.t / c.size-n.result) (c.loop-t.t % c.size-n.result) c.size-n.ensures.problem in
    omega (arith, so_far, fits, c.flow_between-flow.ensures.value, most)

pub bounds-delivered-route : goal.bounds-delivered-route
bounds-delivered-route c =
    let ends = ends_here c.args.instance.now c.args.plan.now c.routes-route-items.result.now c.loop-t.t c.requires c.routes-route-items.ensures c.size-n.ensures.problem (omega arith) in
    omega (arith, ends.last, c.size-n.ensures.problem.size_limit)

pub bounds-delivered-route-in-loop-t : goal.bounds-delivered-route-in-loop-t
bounds-delivered-route-in-loop-t c =
    let ends = ends_here c.args.instance.now c.args.plan.now c.routes-route-items.result.now c.loop-t.t c.requires c.routes-route-items.ensures c.size-n.ensures.problem (omega arith) in
    omega (arith, ends.last, c.size-n.ensures.problem.size_limit)

pub overflow_add-delivered : goal.overflow_add-delivered
overflow_add-delivered c =
    let k = (get_or c.routes-route-items.result.now c.loop-t.t (0, 0)).1 in
    let so_far = c.loop-t.invariant.delivered k in
    let fits = flow_fits c.args.instance.now c.args.plan.now c.routes-route-items.result.now c.loop-t.t c.requires c.routes-route-items.ensures (λ (x : Routed). nat_eq x.1.1 k) c.size-n.ensures.problem (omega arith) in
    let most = flow_limit c.args.instance.now (c.loop-t.t / c.size-n.result) (c.loop-t.t % c.size-n.result) c.size-n.ensures.problem in
    omega (arith, so_far, fits, c.flow_between-flow.ensures.value, most)

pub loop-t-preserved : goal.loop-t-preserved
loop-t-preserved c = record {
  room_collected = length-set c.loop-t.collected (get_or c.routes-route-items.result.now c.loop-t.t (0, 0)).0 _ ∙ c.loop-t.invariant.room_collected;
  room_delivered = length-set c.loop-t.delivered (get_or c.routes-route-items.result.now c.loop-t.t (0, 0)).1 _ ∙ c.loop-t.invariant.room_delivered;
  collected = λ k.
      let ends = ends_here c.args.instance.now c.args.plan.now c.routes-route-items.result.now c.loop-t.t c.requires c.routes-route-items.ensures c.size-n.ensures.problem (omega arith) in
      let more = rw c.size-n.ensures.value at c.flow_between-flow.ensures.value in
      let hub = (get_or c.routes-route-items.result.now c.loop-t.t (0, 0)).0 in
      added_at c.loop-t.collected hub c.flow_between-flow.result k (omega (arith, ends.first, c.size-n.ensures.problem.size_limit, c.loop-t.invariant.room_collected))
      ∙ (λ x. c.loop-t.invariant.collected k x + cond (nat_eq hub k) (more x) 0)
      ∙ sym (flow_more c.args.instance.now c.args.plan.now c.routes-route-items.result.now c.loop-t.t c.requires c.routes-route-items.ensures (λ (x : Routed). nat_eq x.1.0 k) (omega arith));
  delivered = λ k.
      let ends = ends_here c.args.instance.now c.args.plan.now c.routes-route-items.result.now c.loop-t.t c.requires c.routes-route-items.ensures c.size-n.ensures.problem (omega arith) in
      let more = rw c.size-n.ensures.value at c.flow_between-flow.ensures.value in
      let hub = (get_or c.routes-route-items.result.now c.loop-t.t (0, 0)).1 in
      added_at c.loop-t.delivered hub c.flow_between-flow.result k (omega (arith, ends.last, c.size-n.ensures.problem.size_limit, c.loop-t.invariant.room_delivered))
      ∙ (λ x. c.loop-t.invariant.delivered k x + cond (nat_eq hub k) (more x) 0)
      ∙ sym (flow_more c.args.instance.now c.args.plan.now c.routes-route-items.result.now c.loop-t.t c.requires c.routes-route-items.ensures (λ (x : Routed). nat_eq x.1.1 k) (omega arith));
}

pub returns-clause-collected : goal.returns-clause-collected
returns-clause-collected c = λ k.
    c.loop-t.invariant.collected k
    ∙ ap (λ xs. sum_by (flow_on c.args.instance.now) (filter (λ (x : Routed). nat_eq x.1.0 k) xs)) (all_routed c.args.instance.now c.args.plan.now c.routes-route-items.result.now c.loop-t.t c.requires c.routes-route-items.ensures (omega arith))

pub returns-clause-delivered : goal.returns-clause-delivered
returns-clause-delivered c = λ k.
    c.loop-t.invariant.delivered k
    ∙ ap (λ xs. sum_by (flow_on c.args.instance.now) (filter (λ (x : Routed). nat_eq x.1.1 k) xs)) (all_routed c.args.instance.now c.args.plan.now c.routes-route-items.result.now c.loop-t.t c.requires c.routes-route-items.ensures (omega arith))
