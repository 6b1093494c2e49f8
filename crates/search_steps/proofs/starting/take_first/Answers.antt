use Rattle.std.proofs.Common.{refl, sym, subst, ◌∙◌}
use Rattle.search_steps.proofs.Orders.{outside_is}
use Rattle.search_steps.proofs.Starts.{IsLeast, least_is, least_set, first_is_new, second_state, second_going}
use Rattle.search_steps.proofs.starting.take_first.Goals as goal

pub of-requires-clause-some_node : goal.of-requires-clause-some_node
of-requires-clause-some_node g c =
    let p = c.args.task.now.instance.now in
    (least_set p c.args.hubs.now c.args.hubs.now c.requires.going.problem c.requires.lacks_none (least_is p c.args.hubs.now c.requires.first c.requires.fewer) refl).some_hub

pub of-requires-clause-ascend : goal.of-requires-clause-ascend
of-requires-clause-ascend g c =
    let p = c.args.task.now.instance.now in
    (least_set p c.args.hubs.now c.args.hubs.now c.requires.going.problem c.requires.lacks_none (least_is p c.args.hubs.now c.requires.first c.requires.fewer) refl).ascend

pub add_cut-requires-clause-set : goal.add_cut-requires-clause-set
add_cut-requires-clause-set g c =
    let p = c.args.task.now.instance.now in
    least_set p c.args.hubs.now c.in_ok-set.set c.requires.going.problem c.requires.lacks_none
    (least_is p c.args.hubs.now c.requires.first c.requires.fewer) (c.in_ok-set.ensures ∙ c.in_ok-hubs.ensures)

pub add_cut-requires-clause-first_time : goal.add_cut-requires-clause-first_time
add_cut-requires-clause-first_time g c =
    let p = c.args.task.now.instance.now in
    let before = c.args.progress.now in
    first_is_new g.S.Separator.kind p before.pool.entries c.in_ok-set.set before.hubs before.cost before.made before.stop c.requires.going.problem
    (subst (IsLeast p) (sym (c.in_ok-set.ensures ∙ c.in_ok-hubs.ensures)) (least_is p c.args.hubs.now c.requires.first c.requires.fewer)) c.requires.begun

pub returns-clause-begun : goal.returns-clause-begun
returns-clause-begun g c =
    let p = c.args.task.now.instance.now in
    let before = c.args.progress.now in
    let set = c.in_ok-set.set in
    let same = c.in_ok-set.ensures ∙ c.in_ok-hubs.ensures in
    let least = least_is p c.args.hubs.now c.requires.first c.requires.fewer in
    second_state g.S.Separator.kind p before.pool.entries c.add_cut.new.pool.entries set c.in_ok-order.order.items c.in_ok-hubs.hubs before.hubs c.in_ok-progress.field-0
    before.cost before.made before.stop c.requires.going.problem
    (least_set p c.args.hubs.now set c.requires.going.problem c.requires.lacks_none least same) c.requires.begun c.in_ok-progress.ensures.cut
    (subst (IsLeast p) (sym same) least)
    (outside_is p set c.in_ok-order.order.items c.requires.going.problem c.in_ok-order.ensures.order c.in_ok-order.ensures.ascend) (sym c.in_ok-set.ensures)

pub returns-clause-going : goal.returns-clause-going
returns-clause-going g c =
    let p = c.args.task.now.instance.now in
    let set = c.in_ok-set.set in
    second_going g.S.Separator.kind c.args.task.now c.args.progress.now _ set c.in_ok-order.order.items c.requires.going c.requires.begun c.in_ok-progress.ensures.cut
    (record { lines = refl; made = refl; stop = refl })
    (least_set p c.args.hubs.now set c.requires.going.problem c.requires.lacks_none (least_is p c.args.hubs.now c.requires.first c.requires.fewer)
    (c.in_ok-set.ensures ∙ c.in_ok-hubs.ensures)) (sym c.in_ok-set.ensures)
