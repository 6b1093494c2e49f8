use Rattle.std.proofs.Common.{List, ℕ, subst}
use Rattle.hub_spec.specs.Separation.{IsOrder}
use Rattle.hub_model.proofs.OutsideNodes.{outside_kept, outside_dropped, outside_all, outside_order, outside_ascends}
use Rattle.hub_model.proofs.orders.outside.Goals as goal
use Rattle.hub_model.proofs.orders.outside.Goals.{then-not-is_among+in_ok-push, else-not-is_among}

pub loop-k-preserved : goal.loop-k-preserved
loop-k-preserved c = elim c.if-not-is_among.branch [
  | then-not-is_among+in_ok-push w ↦ rw (w.nodes-is, w.in_ok-push.ensures.items)
      (outside_kept c.members-hubs.result.now c.candidates-k-items.result.now c.loop-k.nodes.items c.loop-k.k-index c.is_among.result
      c.loop-k-test.true c.is_among.ensures w.if-not-is_among.true c.loop-k.invariant)
  | else-not-is_among w ↦ rw w.nodes-is
      (outside_dropped c.members-hubs.result.now c.candidates-k-items.result.now c.loop-k.nodes.items c.loop-k.k-index c.is_among.result
      c.loop-k-test.true c.is_among.ensures w.if-not-is_among.false c.loop-k.invariant)
]

pub returns-clause-order : goal.returns-clause-order
returns-clause-order c =
    let P : List ℕ → Type 0 = λ hubs. IsOrder c.args.instance.now hubs c.loop-k.nodes.items in
    subst P c.members-hubs.ensures.value (outside_order c.args.instance.now c.members-hubs.result.now c.loop-k.nodes.items c.candidates-k-items.ensures.problem
    (outside_all c.members-hubs.result.now c.candidates-k-items.result.now c.args.instance.now.candidates c.loop-k.nodes.items c.loop-k.k-index
    c.loop-k-test.false c.candidates-k-items.ensures.value c.loop-k.invariant))

pub returns-clause-ascend : goal.returns-clause-ascend
returns-clause-ascend c =
    outside_ascends c.args.instance.now c.members-hubs.result.now c.loop-k.nodes.items c.candidates-k-items.ensures.problem
    (outside_all c.members-hubs.result.now c.candidates-k-items.result.now c.args.instance.now.candidates c.loop-k.nodes.items c.loop-k.k-index
    c.loop-k-test.false c.candidates-k-items.ensures.value c.loop-k.invariant)
