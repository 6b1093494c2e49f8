use Rattle.std.proofs.Common.{◌≡◌, take, sum_by}
use Rattle.network_report.specs.Parts.{routed, collection_leg, trunk_leg, delivery_leg}
use Rattle.network_report.proofs.legs.FlowLegs.of_plan.Given as goal

abbrev pub invariant-loop-t : goal.invariant-loop-t
invariant-loop-t l = record {
  collected : l.sum.collection ≡ sum_by (collection_leg l.instance) (take l.t (routed l.instance l.plan));
  carried : l.sum.trunk ≡ sum_by (trunk_leg l.instance) (take l.t (routed l.instance l.plan));
  delivered : l.sum.delivery ≡ sum_by (delivery_leg l.instance) (take l.t (routed l.instance l.plan));
}
