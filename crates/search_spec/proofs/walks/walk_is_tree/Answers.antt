use Rattle.search_spec.proofs.Walking.{is_tree}
use Rattle.search_spec.proofs.walks.walk_is_tree.Goals as goal

pub returns : goal.returns
returns c = is_tree
