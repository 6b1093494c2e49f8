use Rattle.cert_conditions.proofs.Whole.{tells_whole, tells_certificate}
use Rattle.cert_conditions.proofs.checks.Checks.first_failure.Goals as goal

pub returns-clause-lines : goal.returns-clause-lines
returns-clause-lines c = λ lines stage lead has. (tells_whole c.args.self.now lines stage lead has).tells

pub returns-clause-certificate : goal.returns-clause-certificate
returns-clause-certificate c = λ k range has. tells_certificate c.args.self.now k range has
