use Rattle.search_spec.specs.Choices.{rule_parts}
use Rattle.search_steps.proofs.rules.Rule.alone.Goals as goal

pub returns : goal.returns
unfolding rule_parts
returns g c = c.only_set.ensures.only
