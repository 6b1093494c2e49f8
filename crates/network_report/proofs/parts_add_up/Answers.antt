use Rattle.network_report.proofs.PlanParts.{parts_of_cost}
use Rattle.network_report.proofs.parts_add_up.Goals as goal

pub returns : goal.returns
returns c = λ p k ok holds. parts_of_cost p k holds
