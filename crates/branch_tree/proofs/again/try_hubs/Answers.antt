use Rattle.std.proofs.Common.{◌≤◌, List, ℕ, length, sym, subst, ◌∙◌}
use Rattle.std.specs.List.Sorted.{IsStrictlyIncreasing}
use Rattle.std.proofs.lemmas.Result.{on_ok_weaker}
use Rattle.search_spec.proofs.Beginnings.{tried_set}
use Rattle.search_steps.specs.Progressing.{state_of}
use Rattle.branch_tree.proofs.Beginning.{not_tried, tried_at}
use Rattle.search_steps.proofs.Orders.{outside_is}
use Rattle.branch_tree.proofs.again.try_hubs.Goals as goal

pub returns-then-not-is_tried-clause-at : goal.returns-then-not-is_tried-clause-at
returns-then-not-is_tried-clause-at g c =
    not_tried g.S.Separator.kind c.args.task.now c.args.progress.now c.in_ok-set.set c.args.hubs.now c.requires.going c.in_ok-set.ensures
    (sym c.is_tried.ensures.is ∙ c.if-not-is_tried.true)

pub separate-requires-clause-set : goal.separate-requires-clause-set
separate-requires-clause-set g c =
    let p = c.args.task.now.instance.now in
    let same = sym c.in_ok-set.ensures in
    (tried_set p (state_of p c.args.progress.now) c.in_ok-set.set (subst (λ (hs : List ℕ). 1 ≤ length hs) same c.requires.some_hub)
    (subst IsStrictlyIncreasing same c.requires.ascend) (sym c.is_tried.ensures.is ∙ c.if-not-is_tried.false)).is_set

pub returns-clause-at : goal.returns-clause-at
returns-clause-at g c =
    let t = c.args.task.now in
    let set = c.in_ok-set.set in
    let order = c.in_ok-order.order.items in
    on_ok_weaker c.separate.result
    (λ at. tried_at g.S.Separator.kind t c.args.progress.now c.separate.new.progress set c.args.hubs.now order c.in_ok-set.ensures
    (sym c.is_tried.ensures.is ∙ c.if-not-is_tried.false)
    (outside_is t.instance.now set order c.requires.going.problem c.in_ok-order.ensures.order c.in_ok-order.ensures.ascend) at)
    c.separate.ensures.at
