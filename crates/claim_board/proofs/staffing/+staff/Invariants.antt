use Rattle.std.proofs.Common.{◌+◌, ◌*◌}
use Rattle.claim_board.proofs.staffing.+staff.Given as goal

abbrev pub decreases-staff : goal.decreases-staff
decreases-staff g l = 2 * l.workers

abbrev pub decreases-back : goal.decreases-back
decreases-back g l = 2 * l.rest + 1

abbrev pub decreases-front : goal.decreases-front
decreases-front g l = 2 * l.half + 1
