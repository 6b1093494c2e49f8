use Rattle.std.proofs.Common.{◌++◌, [], ◌∷◌}
use Rattle.std.proofs.lemmas.Result.{IfOk-weaker}
use Rattle.cert_conditions.specs.Steps.{Steps}
use Rattle.cert_conditions.specs.Taken.{HasTaken}
use Rattle.cert_conditions.proofs.Whole.{may_take, has_taken}
use Rattle.cert_conditions.proofs.checks.Checks.take.Goals as goal

pub take_item-requires-clause-may : goal.take_item-requires-clause-may
take_item-requires-clause-may c = may_take c.requires.0 c.args.item c.args.self.now c.requires.1 c.requires.2

pub returns-clause-taken : goal.returns-clause-taken
returns-clause-taken c = λ given has is_given.
    IfOk-weaker c.take_item.result (λ _. Steps c.args.self.now c.args.item c.take_item.new.self) (λ _. HasTaken (given ++ c.args.item ∷ []) c.take_item.new.self)
    (λ _ h. has_taken given c.args.item c.args.self.now c.take_item.new.self has h) c.take_item.ensures.steps
