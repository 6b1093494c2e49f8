use Rattle.std.proofs.Common.{get_or, flat_map, ap, is_ok, is_err, arith}
use Rattle.cert_format.proofs.Following.{as_text, list_more, list_stop, list_end}
use Rattle.network_report.specs.Texts.{hub_line, flows_line}
use Rattle.network_report.proofs.Handled.{hub_below}
use Rattle.network_report.proofs.lines.put_flows.Goals as goal

pub bounds-flows-k : goal.bounds-flows-k
bounds-flows-k g c =
    hub_below c.args.instance.now c.args.plan.now c.hubs-hub-items.result.now c.loop-hub.hub-index c.of_plan-flows.ensures.problem c.requires c.hubs-hub-items.ensures.hubs (omega arith)

pub bounds-flows-k-in-loop-hub : goal.bounds-flows-k-in-loop-hub
bounds-flows-k-in-loop-hub g c =
    hub_below c.args.instance.now c.args.plan.now c.hubs-hub-items.result.now c.loop-hub.hub-index c.of_plan-flows.ensures.problem c.requires c.hubs-hub-items.ensures.hubs (omega arith)

pub returns-in_err-put_hub : goal.returns-in_err-put_hub
returns-in_err-put_hub g c =
    as_text (ap (flat_map (flows_line c.args.instance.now c.args.plan.now)) c.hubs-hub-items.ensures.hubs)
    (list_stop 0 c.loop-hub.invariant c.put_hub.ensures (ap is_err c.in_err-put_hub.was) c.from_residual.ensures.0 (omega arith)
    (λ x. hub_line (get_or c.hubs-hub-items.result.now c.loop-hub.hub-index 0) (c.of_plan-flows.ensures.collected (get_or c.hubs-hub-items.result.now c.loop-hub.hub-index 0) x) (c.of_plan-flows.ensures.delivered (get_or c.hubs-hub-items.result.now c.loop-hub.hub-index 0) x)))

pub loop-hub-preserved : goal.loop-hub-preserved
loop-hub-preserved g c =
    list_more 0 c.loop-hub.invariant c.put_hub.ensures (ap is_ok c.in_ok-put_hub.was) (omega arith)
    (λ x. hub_line (get_or c.hubs-hub-items.result.now c.loop-hub.hub-index 0) (c.of_plan-flows.ensures.collected (get_or c.hubs-hub-items.result.now c.loop-hub.hub-index 0) x) (c.of_plan-flows.ensures.delivered (get_or c.hubs-hub-items.result.now c.loop-hub.hub-index 0) x))

pub returns : goal.returns
returns g c =
    as_text (ap (flat_map (flows_line c.args.instance.now c.args.plan.now)) c.hubs-hub-items.ensures.hubs)
    (list_end c.loop-hub.invariant (omega arith))
