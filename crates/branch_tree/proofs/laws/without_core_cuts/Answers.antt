use Rattle.branch_tree.proofs.WholeSearch.{found_is_rule, again_is_rule}
use Rattle.branch_tree.proofs.laws.without_core_cuts.Goals as goal

pub returns : goal.returns
returns c = λ p n start. (found_is_rule p n, again_is_rule p n start)
