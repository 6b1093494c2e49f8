use Rattle.search_spec.proofs.Walking.{leaves_branches}
use Rattle.search_spec.proofs.walks.pending_are_branches.Goals as goal

pub returns : goal.returns
returns c = leaves_branches
