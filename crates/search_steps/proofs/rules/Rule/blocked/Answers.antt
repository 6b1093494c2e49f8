use Rattle.search_spec.specs.Choices.{rule_parts}
use Rattle.search_steps.proofs.rules.Rule.blocked.Goals as goal

pub blocked_line-requires-clause-no_end : goal.blocked_line-requires-clause-no_end
unfolding rule_parts
blocked_line-requires-clause-no_end g c = c.requires.no_end

pub returns : goal.returns
unfolding rule_parts
returns g c = c.blocked_line.ensures
