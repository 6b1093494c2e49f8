use Rattle.search_steps.proofs.KindCuts.{kept_of_set}
use Rattle.search_steps.proofs.kind_laws.kept_is_of_set.Goals as goal

pub returns : goal.returns
returns c = kept_of_set
