use Rattle.leg_duals.proofs.StopRoutes.{first_route_least}
use Rattle.leg_duals.proofs.laws.first_route_is_least.Goals as goal

pub returns : goal.returns
returns c = first_route_least
