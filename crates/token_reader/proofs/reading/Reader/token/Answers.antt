use Rattle.std.proofs.Common.{◌∙◌, ap}
use Rattle.token_reader.specs.Unread.{later}
use Rattle.token_reader.proofs.Ahead.{ahead_is, past_one}
use Rattle.token_reader.proofs.reading.Reader.token.Goals as goal

pub returns-clause-moved : goal.returns-clause-moved
returns-clause-moved c =
    let rest = ahead_is (λ t. (t.0, t.1.now)) c.next-self-inside.result _ _ c.next-self-inside.ensures.steps in
    past_one (λ t. (t.0, t.1.now)) c.self.inside.next _ _ c.next-self-inside.result _ _ c.in-Some.is rest ∙ ap (later 1) c.self.view_is
