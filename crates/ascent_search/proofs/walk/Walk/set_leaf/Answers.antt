use Rattle.std.proofs.Common.{◌≤◌, ◌+◌, List, ℕ, sym, subst, ◌∙◌, arith}
use Rattle.std.proofs.lemmas.Result.{on_ok_weaker}
use Rattle.hub_spec.specs.Problem.{opening_cost}
use Rattle.hub_spec.specs.Plans.{HasWanted, IsSetCost}
use Rattle.hub_spec.specs.Cuts.{Cut}
use Rattle.hub_spec.specs.Trees.{cut_at}
use Rattle.ascent_search.specs.declared.task.SearchTask.{SearchTask}
use Rattle.ascent_search.specs.Gaps.{goal_of}
use Rattle.ascent_search.specs.Progressing.{cuts_of, IsDone}
use Rattle.ascent_search.specs.SingleCuts.{ClosesBy}
use Rattle.ascent_search.proofs.Gaps.{goal_least}
use Rattle.ascent_search.proofs.Steps.{at_twice, at_done}
use Rattle.ascent_search.proofs.SingleBounds.{total_within}
use Rattle.ascent_search.proofs.SetLeaves.{ordered_cost, last_set_closes}
use Rattle.ascent_search.proofs.walk.Walk.set_leaf.Goals as goal

pub offer_set-requires-clause-wanted : goal.offer_set-requires-clause-wanted
offer_set-requires-clause-wanted c =
    subst (HasWanted c.args.self.now.task.now.instance.now) (sym c.in_ok-ordered.ensures.hubs) c.requires.last.wanted

pub offer_set-requires-clause-total : goal.offer_set-requires-clause-total
offer_set-requires-clause-total c = total_within _ _ c.set_sums-total.result _ c.set_sums-total.ensures.sums

pub offer_set-requires-clause-cost : goal.offer_set-requires-clause-cost
offer_set-requires-clause-cost c =
    let sums = c.set_sums-total.ensures in
    ordered_cost c.args.self.now.task.now.instance.now _ c.args.set c.in_ok-ordered.ordered c.deref.result.now _ c.set_sums-total.result
    (sums.problem ∙ c.requires.walking.bench) c.deref.ensures.value c.requires.walking.going.problem c.in_ok-ordered.ensures sums.sums

pub keep-requires-clause-fit : goal.keep-requires-clause-fit
keep-requires-clause-fit c = (c.in_ok-ordered.ensures.is_set, c.in_ok-ordered.ensures.is_order)

pub cut_leaf-requires-clause-closes : goal.cut_leaf-requires-clause-closes
cut_leaf-requires-clause-closes c =
    let b = c.args.branch.now in
    let p = c.args.self.now.task.now.instance.now in
    let sums = c.set_sums-total.ensures in
    let after = c.keep.new.self.progress in
    let ordered = c.in_ok-ordered.ordered in
    let cost = c.set_sums-total.result + opening_cost p ordered.set in
    let of_ordered = ordered_cost p _ c.args.set ordered c.deref.result.now _ c.set_sums-total.result (sums.problem ∙ c.requires.walking.bench)
    c.deref.ensures.value c.requires.walking.going.problem c.in_ok-ordered.ensures sums.sums in
    let is_cost = subst (λ (hs : List ℕ). IsSetCost p hs cost) c.in_ok-ordered.ensures.hubs of_ordered in
    let gap = c.args.self.now.task.now.gap in
    let low : goal_of gap after.cost ≤ cost = omega (arith, goal_least gap after.cost, c.in_ok-number.ensures.cost, c.in_ok-offer_set.ensures.reached) in
    subst (λ (t : SearchTask). ClosesBy t.instance.now (cut_at (cuts_of t.instance.now after) c.in_ok-number.number) (goal_of t.gap after.cost) b)
    (sym c.in_ok-number.ensures.same.task)
    (subst (λ (cut : Cut). ClosesBy p cut (goal_of gap after.cost) b) (sym c.in_ok-number.ensures.cut)
    (last_set_closes p b c.args.set ordered cost (goal_of gap after.cost) c.requires.walking.going.problem
    c.requires.branch c.requires.room c.requires.last c.in_ok-ordered.ensures is_cost low))

pub returns-clause-done : goal.returns-clause-done
returns-clause-done c =
    let t = c.args.self.now.task.now in
    let b = c.args.branch.now in
    let before = c.args.self.now.progress in
    let offered = c.offer_set.new.progress in
    let kept = c.keep.new.self.progress in
    let after = c.cut_leaf.new.self.progress in
    on_ok_weaker c.cut_leaf.result
    (λ done. at_done t b before kept after (at_twice t before offered kept c.in_ok-offer_set.ensures.at c.in_ok-number.ensures.at)
    (subst (λ (x : SearchTask). IsDone x b kept after) c.in_ok-number.ensures.same.task done))
    c.cut_leaf.ensures.done
