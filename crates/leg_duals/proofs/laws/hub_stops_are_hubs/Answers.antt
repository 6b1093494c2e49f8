use Rattle.leg_duals.proofs.RouteLengths.{hub_stops}
use Rattle.leg_duals.proofs.laws.hub_stops_are_hubs.Goals as goal

pub returns : goal.returns
returns c = hub_stops
