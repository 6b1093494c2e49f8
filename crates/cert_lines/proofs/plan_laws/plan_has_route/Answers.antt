use Rattle.cert_lines.proofs.PlanTallies.{has_route}
use Rattle.cert_lines.proofs.plan_laws.plan_has_route.Goals as goal

pub returns : goal.returns
returns c = has_route
