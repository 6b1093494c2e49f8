use Rattle.leg_duals.proofs.StopRoutes.{no_flow_route}
use Rattle.leg_duals.proofs.laws.first_hub_serves_no_flow.Goals as goal

pub returns : goal.returns
returns c = no_flow_route
