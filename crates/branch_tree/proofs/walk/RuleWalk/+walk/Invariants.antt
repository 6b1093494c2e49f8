use Rattle.std.proofs.Common.{◌+◌, ◌*◌, length}
use Rattle.branch_tree.proofs.walk.RuleWalk.+walk.Given as goal

abbrev pub decreases-fixed : goal.decreases-fixed
decreases-fixed g l = 3 * length l.branch.now.free + 1

abbrev pub decreases-halved : goal.decreases-halved
decreases-halved g l = 3 * length l.branch.now.free

abbrev pub decreases-node : goal.decreases-node
decreases-node g l = 3 * length l.branch.now.free + 2
