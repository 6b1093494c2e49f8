use Rattle.std.proofs.Common.{All, sym, subst}
use Rattle.node_rounds.specs.Outcomes.{IsPendingOf}
use Rattle.test_workers.proofs.rounds.turns_where_routes_are_limited.Goals as goal

pub turns_alone-requires : goal.turns_alone-requires
turns_alone-requires g c = λ entries.
    subst (All (IsPendingOf c.in_ok-instance.instance entries)) (sym c.deref.ensures.value) (c.in_ok-nodes.ensures.nodes entries)

pub turns_by-requires-clause-nodes : goal.turns_by-requires-clause-nodes
turns_by-requires-clause-nodes g c κs = λ entries.
    subst (All (IsPendingOf c.in_ok-instance.instance entries)) (sym c.deref-2.ensures.value) (c.in_ok-nodes.ensures.nodes entries)
