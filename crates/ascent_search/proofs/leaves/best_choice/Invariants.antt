use Rattle.leaf_bound.specs.Weighing.{most_bound, IsWithin}
use Rattle.ascent_search.specs.Progressing.{cuts_of}
use Rattle.ascent_search.specs.SingleCuts.{IsChoice}
use Rattle.ascent_search.proofs.leaves.best_choice.Given as goal

abbrev pub invariant-loop-before : goal.invariant-loop-before
invariant-loop-before l =
    IsChoice l.task.instance.now (cuts_of l.task.instance.now l.progress) l.branch l.best × IsWithin most_bound l.best.bound
