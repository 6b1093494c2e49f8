use Rattle.std.proofs.lemmas.Result.{on_ok_weaker}
use Rattle.hub_model.specs.Lines.{tree_line_of}
use Rattle.search_spec.specs.Steps.{stopped_leaf}
use Rattle.search_steps.specs.Weights.{pairs_of}
use Rattle.search_steps.specs.Progressing.{state_of}
use Rattle.branch_tree.proofs.AddedLines.{line_at}
use Rattle.branch_tree.proofs.walk.RuleWalk.stopped_leaf.Goals as goal

pub returns-clause-stopped : goal.returns-clause-stopped
returns-clause-stopped g c =
    let t = c.args.self.now.task.now in
    let p = t.instance.now in
    let before = c.args.self.now.progress in
    let stopped = stopped_leaf p c.args.branch.now (pairs_of c.args.weights.now) (state_of p before) in
    on_ok_weaker c.add_line.result
    (λ has. line_at t before c.stopped_leaf.new.progress c.add_line.new.progress stopped.state stopped.tree (tree_line_of c.in_ok-line.line)
    c.in_ok-line.ensures.at c.in_ok-line.ensures.line has)
    c.add_line.ensures
