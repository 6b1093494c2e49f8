use Rattle.std.proofs.Common.{◌<◌, List, ℕ, length, slice_index, subst, arith}
use Rattle.std.proofs.lemmas.List.{take_all}
use Rattle.std.proofs.lemmas.List.Elements.{All-take}
use Rattle.hub_spec.proofs.Limits.{hubs_are_nodes}
use Rattle.hub_model.specs.Values.{AreInTurn}
use Rattle.hub_model.proofs.Turns.{order_node, order_nodes, turns_start, turns_more}
use Rattle.test_plain.proofs.duals.set_values.Goals as goal

pub asked_value-requires-clause-node : goal.asked_value-requires-clause-node
asked_value-requires-clause-node c =
    order_node c.args.instance.now c.args.hubs.now c.args.order.now c.loop-t.t c.requires.problem c.requires.order c.loop-t-test.true

pub asked_value-requires-clause-hubs : goal.asked_value-requires-clause-hubs
asked_value-requires-clause-hubs c = hubs_are_nodes c.args.instance.now c.args.hubs.now c.requires.problem.limits c.requires.set

pub asked_value-requires-clause-earlier : goal.asked_value-requires-clause-earlier
asked_value-requires-clause-earlier c =
    All-take (λ k. k < c.args.instance.now.size) c.loop-t.t c.args.order.now
    (order_nodes c.args.instance.now c.args.hubs.now c.args.order.now c.requires.problem c.requires.order)

pub bounds-values-k : goal.bounds-values-k
bounds-values-k c =
    omega (arith, order_node c.args.instance.now c.args.hubs.now c.args.order.now c.loop-t.t c.requires.problem c.requires.order c.loop-t-test.true)

pub loop-t-init : goal.loop-t-init
loop-t-init c = turns_start c.args.instance.now c.args.hubs.now (c.args.i, c.args.j) c.args.price c.args.values.now c.requires.none

pub loop-t-preserved : goal.loop-t-preserved
loop-t-preserved c =
    let node : slice_index c.args.order.now c.loop-t.t < length c.loop-t.values =
    omega (arith, order_node c.args.instance.now c.args.hubs.now c.args.order.now c.loop-t.t c.requires.problem c.requires.order c.loop-t-test.true) in
    turns_more c.args.instance.now c.args.hubs.now c.args.order.now (c.args.i, c.args.j) c.args.price c.loop-t.values c.loop-t.t c.asked_value.result
    c.loop-t-test.true node c.loop-t.invariant c.asked_value.ensures

pub returns : goal.returns
returns c =
    subst (λ (ks : List ℕ). AreInTurn c.args.instance.now c.args.hubs.now ks (c.args.i, c.args.j) c.args.price c.loop-t.values)
    (take_all c.loop-t.t c.args.order.now (omega arith)) c.loop-t.invariant
