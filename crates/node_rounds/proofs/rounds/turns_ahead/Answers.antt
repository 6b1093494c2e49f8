use Rattle.std.proofs.Common.{length, refl}
use Rattle.std.proofs.lemmas.Result.{IfOk-weaker}
use Rattle.node_rounds.proofs.InOrder.{turns_in_order, outcomes_in_order}
use Rattle.node_rounds.proofs.rounds.turns_ahead.Goals as goal

pub returns-clause-turns : goal.returns-clause-turns
returns-clause-turns g c =
    IfOk-weaker c.answers.result _ _ (λ v h. turns_in_order _ (length c.args.nodes.now) v.items refl h) c.answers.ensures

pub returns-clause-sound : goal.returns-clause-sound
returns-clause-sound g c =
    IfOk-weaker c.answers.result _ _ (λ v h. outcomes_in_order _ (length c.args.nodes.now) v.items refl h) c.answers.ensures
