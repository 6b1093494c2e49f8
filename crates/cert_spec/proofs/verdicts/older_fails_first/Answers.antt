use Rattle.cert_spec.specs.Conditions.{older_conditions}
use Rattle.cert_spec.proofs.Decided.{first_failure, older_decided}
use Rattle.cert_spec.proofs.verdicts.older_fails_first.Goals as goal

pub returns : goal.returns
returns c = λ p k. first_failure (older_conditions p k) (older_decided p k)
