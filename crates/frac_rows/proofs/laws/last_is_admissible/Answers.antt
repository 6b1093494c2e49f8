use Rattle.frac_rows.proofs.LastSolutions.{last_is_admissible}
use Rattle.frac_rows.proofs.laws.last_is_admissible.Goals as goal

pub returns : goal.returns
returns c = last_is_admissible
