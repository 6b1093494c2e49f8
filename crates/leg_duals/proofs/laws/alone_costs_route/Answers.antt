use Rattle.leg_duals.proofs.RouteLengths.{alone_costs}
use Rattle.leg_duals.proofs.laws.alone_costs_route.Goals as goal

pub returns : goal.returns
returns c = alone_costs
