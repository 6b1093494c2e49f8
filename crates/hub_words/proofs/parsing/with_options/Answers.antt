use Rattle.hub_words.proofs.Builders.{options_more}
use Rattle.hub_words.proofs.parsing.with_options.Goals as goal

pub loop-name-preserved : goal.loop-name-preserved
loop-name-preserved c =
    options_more _ _ _ _ c.option.result _ _ c.loop-name-test.true c.loop-name.invariant c.option.ensures.rule c.option.ensures.local
    c.in_ok-command.ensures
