use Rattle.std.proofs.Common.{◌≡◌, ℕ, length, get_or, nat_eq}
use Rattle.network_report.proofs.Handled.{flow_so_far}
use Rattle.network_report.proofs.hub_flows.HubFlows.of_plan.Given as goal

abbrev pub invariant-loop-t : goal.invariant-loop-t
invariant-loop-t l = record {
  room_collected : length l.collected ≡ 200;
  room_delivered : length l.delivered ≡ 200;
  collected : (k : ℕ) → get_or l.collected k 0 ≡ flow_so_far (λ x. nat_eq x.1.0 k) l.instance l.plan l.t;
  delivered : (k : ℕ) → get_or l.delivered k 0 ≡ flow_so_far (λ x. nat_eq x.1.1 k) l.instance l.plan l.t;
}
