use Rattle.leg_duals.proofs.RouteLengths.{way_costs}
use Rattle.leg_duals.proofs.laws.ways_cost_routes.Goals as goal

pub returns : goal.returns
returns c = way_costs
