use Rattle.std.proofs.Common.{length}
use Rattle.node_rounds.proofs.splitting.+split.Given as goal

abbrev pub decreases-split_up : goal.decreases-split_up
decreases-split_up l = length l.fixings.now
