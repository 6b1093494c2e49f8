use Rattle.cert_scan.proofs.SpelledNumbers.{least_is}
use Rattle.cert_scan.proofs.digits.least_of.Goals as goal

pub returns-clause-several : goal.returns-clause-several
returns-clause-several c some = least_is c.args.digits c.requires some
