use Rattle.branch_tree.proofs.FirstLines.{found_first}
use Rattle.branch_tree.proofs.laws.unlimited_is_first.Goals as goal

pub returns : goal.returns
returns c = found_first
