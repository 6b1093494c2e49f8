use Rattle.cert_lines.proofs.PlanTallies.{costs_plan}
use Rattle.cert_lines.proofs.plan_laws.plan_costs.Goals as goal

pub returns : goal.returns
returns c = costs_plan
