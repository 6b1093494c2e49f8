use Rattle.leg_duals.proofs.StopRoutes.{price_is_least}
use Rattle.leg_duals.proofs.laws.price_is_least_cost.Goals as goal

pub returns : goal.returns
returns c = price_is_least
