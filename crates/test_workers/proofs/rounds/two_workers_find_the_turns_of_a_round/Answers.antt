use Rattle.std.proofs.Common.{All, sym, subst}
use Rattle.node_rounds.specs.Outcomes.{IsPendingOf}
use Rattle.test_workers.proofs.rounds.two_workers_find_the_turns_of_a_round.Goals as goal

pub turns_agree-requires-clause-nodes : goal.turns_agree-requires-clause-nodes
turns_agree-requires-clause-nodes g c κs = λ entries.
    subst (All (IsPendingOf c.in_ok-instance.instance entries)) (sym c.deref.ensures.value) (c.in_ok-nodes.ensures.nodes entries)
