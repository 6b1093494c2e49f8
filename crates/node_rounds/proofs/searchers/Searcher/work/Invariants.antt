use Rattle.node_rounds.specs.Left.{standing_of}
use Rattle.node_rounds.specs.Searchers.{IsSearcher}
use Rattle.node_rounds.proofs.searchers.Searcher.work.Given as goal

abbrev pub invariant-loop : goal.invariant-loop
invariant-loop g l = IsSearcher l.self l.task (standing_of l.task.instance.now l.progress l.left)
