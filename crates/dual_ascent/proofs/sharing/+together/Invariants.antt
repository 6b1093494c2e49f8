use Rattle.std.proofs.Common.{◌+◌, ◌*◌, length}
use Rattle.dual_ascent.proofs.sharing.+together.Given as goal

abbrev pub decreases-together : goal.decreases-together
decreases-together g l = 2 * length l.desks.items

abbrev pub decreases-others : goal.decreases-others
decreases-others g l = 2 * length l.desks.items + 1
