use Rattle.search_spec.specs.Again.{with_given}
use Rattle.search_steps.specs.Progressing.{state_of, IsAt}
use Rattle.branch_tree.proofs.again.give.Given as goal

abbrev pub invariant-loop-cut : goal.invariant-loop-cut
invariant-loop-cut l =
    IsAt l.fn.task l.fn.progress l.progress (with_given l.yielded (state_of l.fn.task.instance.now l.fn.progress))
