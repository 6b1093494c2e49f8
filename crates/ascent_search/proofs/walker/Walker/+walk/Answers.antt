use Rattle.std.proofs.Common.{◌≡◌, ◌+◌, length, Option, IfSome, sym, ap, subst, ◌∙◌, rules, arith}
use Rattle.std.proofs.lemmas.Result.{on_ok_weaker}
use Rattle.hub_spec.specs.Trees.{Branching, IsBranch}
use Rattle.hub_spec.proofs.ChildLists.{open_branch, closed_branch}
use Rattle.search_spec.proofs.Parting.{length-without}
use Rattle.ascent_search.specs.declared.task.SearchTask.{SearchTask}
use Rattle.hub_model.specs.declared.tree_lines.TreeLine as model
use Rattle.hub_model.specs.Lines.{tree_line_of}
use Rattle.ascent_search.specs.Ends.{IsBarren}
use Rattle.ascent_search.specs.Progressing.{cuts_of, target_of, IsDone, IsAdvised}
use Rattle.ascent_search.proofs.Steps.{at_done, halved_done}
use Rattle.ascent_search.proofs.Walks.{walks_on}
use Rattle.ascent_search.proofs.walker.Walker.+walk.Goals as goal

pub node-end_with-requires-clause-sound : goal.node-end_with-requires-clause-sound
node-end_with-requires-clause-sound g t c =
    let p = c.args.self.now.walk.task.now.instance.now in
    let barren = subst (λ (o : Option model.TreeLine). IfSome o (λ l. IsBarren p c.args.branch.now (tree_line_of l))) c.in-Some.is
    c.in_ok-line.ensures.barren in
    barren.sound (cuts_of p c.args.self.now.walk.progress) (target_of c.args.self.now.walk.progress)

pub node-returns-clause-done : goal.node-returns-clause-done
node-returns-clause-done g t c =
    let task = c.args.self.now.walk.task.now in
    let b = c.args.branch.now in
    let before = c.args.self.now.walk.progress in
    let middle = c.end_by_advice.new.self.walk.progress in
    let after = c.parted.new.self.walk.progress in
    let advised = c.in_ok-end_by_advice.ensures in
    let went_on = subst (IsAdvised task b before middle) c.if-branch.false advised.advised in
    on_ok_weaker c.parted.result
    (λ done. at_done task b before middle after went_on.0 (subst (λ (x : SearchTask). IsDone x b middle after) advised.same.task done))
    c.parted.ensures.done

pub parted-child-requires : goal.parted-child-requires
parted-child-requires g t c = λ _ within.
    (let p = c.args.self.now.walk.task.now.instance.now in
    let b = c.args.branch.now in
    let free = c.branch_node-k.ensures in
    let child = c.in_ok-opened.ensures in
    let fewer : length c.in_ok-opened.opened.free + 1 ≡ length b.free =
    ap (λ (x : Branching). length x.free + 1) child ∙ length-without c.branch_node-k.result b.free free in (
      search (rules, arith),
      (
        within.0,
        (
          within.1,
          (
            search rules,
            (
              record { going = c.in_ok-split_on.ensures.going; bench = c.requires.walking.bench; workers = c.requires.walking.workers },
              subst (IsBranch p) (sym child) (open_branch p b c.branch_node-k.result c.requires.branch free),
            ),
          ),
        ),
      ),
    ))

pub parted-child-requires-2 : goal.parted-child-requires-2
parted-child-requires-2 g t c = λ _ within.
    (let p = c.args.self.now.walk.task.now.instance.now in
    let b = c.args.branch.now in
    let free = c.branch_node-k.ensures in
    let child = c.in_ok-closed.ensures in
    let same = c.in_ok-child.ensures.same in
    let fewer : length c.in_ok-closed.closed.free + 1 ≡ length b.free =
    ap (λ (x : Branching). length x.free + 1) child ∙ length-without c.branch_node-k.result b.free free in (
      search (rules, arith),
      (
        within.0,
        (
          within.1,
          (
            search rules,
            (
              walks_on _ c.child.new.self.walk same c.requires.walking.bench c.requires.walking.workers c.in_ok-child.ensures.done.going,
              subst (λ (x : SearchTask). IsBranch x.instance.now c.in_ok-closed.closed) (sym same.task)
                  (subst (IsBranch p) (sym child) (closed_branch p b c.branch_node-k.result c.requires.branch free)),
            ),
          ),
        ),
      ),
    ))

pub parted-returns-clause-done : goal.parted-returns-clause-done
parted-returns-clause-done g t c =
    let task = c.args.self.now.walk.task.now in
    let b = c.args.branch.now in
    let begun = c.split_on.new.progress in
    let middle = c.child.new.self.walk.progress in
    let after = c.child-2.new.self.walk.progress in
    let opened = subst (λ (x : Branching). IsDone task x begun middle) c.in_ok-opened.ensures c.in_ok-child.ensures.done in
    on_ok_weaker c.child-2.result
    (λ done. halved_done task b c.branch_node-k.result c.args.self.now.walk.progress begun middle after c.in_ok-split_on.ensures opened
    (subst (λ (x : Branching). IsDone task x middle after) c.in_ok-closed.ensures
    (subst (λ (x : SearchTask). IsDone x c.in_ok-closed.closed middle after) c.in_ok-child.ensures.same.task done)))
    c.child-2.ensures.done
