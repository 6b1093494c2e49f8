use Rattle.std.proofs.Common.{sym, subst, All}
use Rattle.std.proofs.lemmas.List.Elements.{All-nil, All-push}
use Rattle.node_rounds.specs.Outcomes.{IsPendingOf}
use Rattle.test_workers.proofs.rounds.nodes_of_three.Goals as goal

pub returns-clause-nodes : goal.returns-clause-nodes
returns-clause-nodes c = λ entries.
    let P = IsPendingOf c.args.instance.now entries in
    let none = subst (All P) (sym c.new-nodes.ensures.items) (All-nil P) in
    let one = subst (All P) (sym c.in_ok-push.ensures.items) (All-push P c.new-nodes.result.items c.node.result none (c.node.ensures entries)) in
    let two = subst (All P) (sym c.in_ok-push-2.ensures.items) (All-push P c.push.new.self.items c.node-2.result one (c.node-2.ensures entries)) in
    subst (All P) (sym c.in_ok-push-3.ensures.items) (All-push P c.push-2.new.self.items c.node-3.result two (c.node-3.ensures entries))
