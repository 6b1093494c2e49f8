use Rattle.std.proofs.Common.{subst}
use Rattle.cert_spec.specs.Conditions.{conditions}
use Rattle.cert_conditions.specs.Taken.{TellsFirst}
use Rattle.cert_checker.proofs.Shown.{IsShown, all_shown}
use Rattle.cert_checker.proofs.checks.verdict_by.Goals as goal
use Rattle.cert_checker.proofs.checks.verdict_by.Goals.{After-verdict_of}

shown : (c : After-verdict_of) → IsShown c.args.checks.now.instance.now c.args.certificate.now c.verdict_of.result
shown c =
    let p = c.args.checks.now.instance.now in
    let k = c.args.certificate.now in
    let range = c.size-nodes.ensures.in_range in
    all_shown p k c.verdict_of.result c.requires.problem range
    (subst (TellsFirst (conditions p k)) c.in-None.is (c.first_failure.ensures.certificate k range c.requires.taken)) c.verdict_of.ensures

pub returns-in-None-clause-verdict : goal.returns-in-None-clause-verdict
returns-in-None-clause-verdict c = (shown (goal.at.returns-in-None-clause-verdict c).After-verdict_of).verdict

pub returns-in-None-clause-bound : goal.returns-in-None-clause-bound
returns-in-None-clause-bound c = (shown (goal.at.returns-in-None-clause-bound c).After-verdict_of).bound

pub returns-in-None-clause-optimal : goal.returns-in-None-clause-optimal
returns-in-None-clause-optimal c = (shown (goal.at.returns-in-None-clause-optimal c).After-verdict_of).optimal

pub returns-in-None-clause-marks : goal.returns-in-None-clause-marks
returns-in-None-clause-marks c = (shown (goal.at.returns-in-None-clause-marks c).After-verdict_of).marks

pub returns-in-Some-clause-verdict : goal.returns-in-Some-clause-verdict
returns-in-Some-clause-verdict c =
    let k = c.args.certificate.now in
    subst (TellsFirst (conditions c.args.checks.now.instance.now k)) c.in-Some.is
    (c.first_failure.ensures.certificate k c.size-nodes.ensures.in_range c.requires.taken)
