use Rattle.std.specs.List.{AllZip, HoldsAt, range_with_len}
use Rattle.node_rounds.specs.Left.{standing_of, turned_of}
use Rattle.node_rounds.specs.Searchers.{IsTurnBy, IsSearcher}
use Rattle.node_rounds.proofs.searchers.Searcher.turns.Given as goal

abbrev pub invariant-loop-place : goal.invariant-loop-place
invariant-loop-place g l =
    IsSearcher l.self l.task (standing_of l.task.instance.now l.progress l.left)
    × AllZip (λ i o. HoldsAt (λ x. IsTurnBy l.task.instance.now l.progress x o) (turned_of l.left.nodes.items) i) (range_with_len 0 l.place) l.outcomes.items
