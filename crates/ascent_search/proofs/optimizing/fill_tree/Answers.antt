use Rattle.std.proofs.Common.{sym, subst}
use Rattle.hub_spec.specs.Trees.{Branching, IsBranch}
use Rattle.hub_spec.proofs.ChildLists.{root_branch}
use Rattle.ascent_search.specs.declared.task.SearchTask.{SearchTask}
use Rattle.ascent_search.specs.Progressing.{IsDone}
use Rattle.ascent_search.proofs.Walks.{begun_walking, begun_done}
use Rattle.ascent_search.proofs.optimizing.fill_tree.Goals as goal

pub node-requires-clause-walking : goal.node-requires-clause-walking
node-requires-clause-walking g c = λ _ _.
    (let is = c.in_ok-walker.ensures in
    begun_walking c.args.task.now c.args.begun c.in_ok-walker.walker.walk is.task is.bench is.progress c.requires.going c.requires.workers)

pub node-requires-clause-branch : goal.node-requires-clause-branch
node-requires-clause-branch g c = λ _ _.
    (let p = c.args.task.now.instance.now in
    subst (λ (t : SearchTask). IsBranch t.instance.now c.in_ok-root.root) (sym c.in_ok-walker.ensures.task)
    (subst (IsBranch p) (sym c.in_ok-root.ensures) (root_branch p c.requires.going.problem)))

pub returns : goal.returns
returns g c =
    let is = c.in_ok-walker.ensures in
    let w = c.in_ok-walker.walker.walk in
    let after = c.node.new.self.walk.progress in
    begun_done c.args.task.now _ c.args.begun after w is.task is.progress
    (subst (λ (x : Branching). IsDone w.task.now x w.progress after) c.in_ok-root.ensures c.in_ok-node.ensures.done)
