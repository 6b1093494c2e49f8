use Rattle.search_steps.specs.Advising.{parts_of}
use Rattle.search_steps.specs.Progressing.{state_of}
use Rattle.search_spec.specs.Lasting.{turns_left}
use Rattle.node_rounds.specs.Left.{left_of, lines_first, standing_of}
use Rattle.node_rounds.proofs.Searched.{IsSearching}
use Rattle.node_rounds.specs.Searchers.{IsTurnerAt}
use Rattle.node_rounds.proofs.searching.all_rounds.Given as goal

abbrev pub invariant-loop-front : goal.invariant-loop-front
invariant-loop-front g l = IsSearching l.fn.task l.fn.progress l.front l.left × g.S.Separator.ready l.separator
    × IsTurnerAt l.turner l.fn.task (standing_of l.fn.task.instance.now l.front.progress l.left)

abbrev pub decreases-loop-front : goal.decreases-loop-front
decreases-loop-front g l =
    turns_left (parts_of l.fn.task.instance.now) (state_of l.fn.task.instance.now l.front.progress)
    (lines_first l.front.progress.lines.items (left_of l.left))
