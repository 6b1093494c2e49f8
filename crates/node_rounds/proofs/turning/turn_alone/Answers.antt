use Rattle.std.proofs.Common.{◌≡◌, ℕ, List, Some, None, false, ap, sym, ◌∙◌}
use Rattle.hub_spec.specs.Trees.{TreeLine}
use Rattle.search_spec.specs.States.{number_in_pool}
use Rattle.search_spec.specs.Choices.{others}
use Rattle.search_steps.specs.Advising.{parts_of}
use Rattle.search_steps.specs.Pools.{state_by}
use Rattle.search_steps.specs.Weights.{pairs_of}
use Rattle.search_steps.proofs.GivenPools.{find_is_number}
use Rattle.search_steps.proofs.Orders.{outside_is, parts_ascending}
use Rattle.search_spec.specs.Places.{ends, asks}
use Rattle.node_rounds.specs.Outcomes.{pending_of, tree_of}
use Rattle.node_rounds.proofs.TurnCases.{alone_known, alone_new}
use Rattle.node_rounds.proofs.turning.turn_alone.Goals as goal

pub returns-in-Some-clause-turn : goal.returns-in-Some-clause-turn
returns-in-Some-clause-turn c = λ hubs cost made stop.
    let p = c.args.instance.now in
    let x = pending_of c.args.node.now in
    let set = c.args.hubs.now in
    let entries = c.args.pool.now.entries in
    let s = state_by p entries hubs cost made stop in
    let number = find_is_number p entries c.in_ok-set.set hubs cost made stop c.find.result c.find.ensures.some c.find.ensures.only c.find.ensures.none in
    let known : number_in_pool s set ≡ Some c.in-Some.number =
    ap (λ (ks : List ℕ). number_in_pool s ks) (sym c.in_ok-set.ensures) ∙ sym number ∙ c.in-Some.is in
    ap (λ (l : TreeLine). ends (tree_of l)) c.in_ok-whole_leaf.ensures
    ∙ alone_known (parts_of p) x set c.in-Some.number (number_in_pool s set) known

pub returns-clause-turn : goal.returns-clause-turn
returns-clause-turn c = λ hubs cost made stop.
    let p = c.args.instance.now in
    let x = pending_of c.args.node.now in
    let set = c.args.hubs.now in
    let entries = c.args.pool.now.entries in
    let s = state_by p entries hubs cost made stop in
    let number = find_is_number p entries c.in_ok-set.set hubs cost made stop c.find.result c.find.ensures.some c.find.ensures.only c.find.ensures.none in
    let unknown : number_in_pool s set ≡ None =
    ap (λ (ks : List ℕ). number_in_pool s ks) (sym c.in_ok-set.ensures) ∙ sym number ∙ c.in_default.is in
    let ascends = outside_is p c.in_ok-set.set c.in_ok-order.order.items c.requires.problem c.in_ok-order.ensures.order c.in_ok-order.ensures.ascend
    ∙ ap (others p) c.in_ok-set.ensures ∙ sym (parts_ascending p set) in
    ap (λ (ws : List ℕ). asks c.in_ok-set.set c.in_ok-order.order.items (pairs_of ws) false)
    (c.in_ok-weights.ensures.items_if_clones_equal (λ x y e. e) ∙ c.deref.ensures.value)
    ∙ alone_new (parts_of p) x set c.in_ok-set.set c.in_ok-order.order.items (number_in_pool s set) unknown c.in_ok-set.ensures ascends
