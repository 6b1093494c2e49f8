use Rattle.search_spec.proofs.Beginnings.{rule_of_sets}
use Rattle.search_spec.proofs.again.rule_is_of_sets.Goals as goal

pub returns : goal.returns
returns c = rule_of_sets
