use Rattle.std.proofs.Common.{subst}
use Rattle.std.proofs.lemmas.Result.{on_ok_weaker}
use Rattle.ascent_search.specs.declared.task.SearchTask.{SearchTask}
use Rattle.ascent_search.specs.Progressing.{IsDone}
use Rattle.ascent_search.proofs.Steps.{at_done}
use Rattle.ascent_search.proofs.walk.Walk.end_by_sums.Goals as goal

pub returns-then-closes-clause-done : goal.returns-then-closes-clause-done
returns-then-closes-clause-done c =
    let b = c.args.branch.now in
    let kept = c.keep_values.new.self.progress in
    let after = c.cut_leaf.new.self.progress in
    on_ok_weaker c.cut_leaf.result
    (λ done. at_done c.args.self.now.task.now b c.args.self.now.progress kept after c.in_ok-number.ensures.at
    (subst (λ (t : SearchTask). IsDone t b kept after) c.in_ok-number.ensures.same.task done)) c.cut_leaf.ensures.done

pub returns-else-closes-clause-done : goal.returns-else-closes-clause-done
returns-else-closes-clause-done c =
    let b = c.args.branch.now in
    let kept = c.keep_values.new.self.progress in
    let after = c.stopped_leaf.new.self.progress in
    on_ok_weaker c.stopped_leaf.result
    (λ done. at_done c.args.self.now.task.now b c.args.self.now.progress kept after c.in_ok-number.ensures.at
    (subst (λ (t : SearchTask). IsDone t b kept after) c.in_ok-number.ensures.same.task done)) c.stopped_leaf.ensures.done
