use Rattle.cert_spec.specs.Progress.{at_start}
use Rattle.cert_spec.specs.Conditions.{conditions_from}
use Rattle.cert_conditions.proofs.Whole.{tells_whole, none_failed, said_by}
use Rattle.cert_conditions.proofs.checks.Checks.bound.Goals as goal

pub returns-clause-lines : goal.returns-clause-lines
returns-clause-lines c = λ lines stage lead has all.
    let t = tells_whole c.args.self.now lines stage lead has in
    t.bound_is (none_failed (conditions_from c.args.self.now.instance.now at_start lines) c.args.self.now.failure t.tells all)

pub returns-clause-certificate : goal.returns-clause-certificate
returns-clause-certificate c = λ k range has all. (said_by c.args.self.now k range has all).1
