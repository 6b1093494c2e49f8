use Rattle.std.proofs.Common.{◌+◌, ◌*◌, length}
use Rattle.ascent_search.proofs.walker.Walker.+walk.Given as goal

abbrev pub decreases-node : goal.decreases-node
decreases-node g l = 3 * length l.branch.now.free + 1

abbrev pub decreases-parted : goal.decreases-parted
decreases-parted g l = 3 * length l.branch.now.free

abbrev pub decreases-child : goal.decreases-child
decreases-child g l = 3 * length l.branch.free + 2
