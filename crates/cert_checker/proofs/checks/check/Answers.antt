use Rattle.std.proofs.Common.{◌≡◌, inl, refl, sym, ap, subst, ◌∙◌}
use Rattle.std.proofs.lemmas.Bool.{false≢true}
use Rattle.hub_spec.specs.Problem.{Problem, IsProblem}
use Rattle.cert_checker.specs.Answers.{IsVerdict, ShowsBound, ShowsOptimal, ShowsMarks}
use Rattle.cert_checker.proofs.checks.check.Goals as goal
use Rattle.cert_checker.proofs.checks.check.Given.{Over}
use Rattle.cert_checker.proofs.checks.check.Goals.{In_ok-take_certificate}

-- the check stays that of the instance
same : (g : Over) (c : In_ok-take_certificate g) → c.take_certificate.new.checks.instance.now ≡ c.args.instance.now
same g c = ap (λ i. i.now) c.in_ok-take_certificate.ensures.instance ∙ c.in_ok-checks.ensures.instance

pub returns-then-not-is_of_size-clause-verdict : goal.returns-then-not-is_of_size-clause-verdict
returns-then-not-is_of_size-clause-verdict g c = inl ((λ h. false≢true (sym c.if-not-is_of_size.true ∙ c.is_of_size.ensures.is.1 h)), refl, refl)

pub take_certificate-requires-clause-size : goal.take_certificate-requires-clause-size
take_certificate-requires-clause-size g c κs within =
    (c.is_of_size.ensures.is.0 c.if-not-is_of_size.false).0 ∙ ap (λ (p : Problem). p.size) (sym c.in_ok-checks.ensures.instance)

pub verdict_by-requires-clause-problem : goal.verdict_by-requires-clause-problem
verdict_by-requires-clause-problem g c =
    let is = same g (goal.at.verdict_by-requires-clause-problem g c).In_ok-take_certificate in
    subst IsProblem (sym is) c.is_of_size.ensures.problem

pub returns-clause-verdict : goal.returns-clause-verdict
returns-clause-verdict g c =
    let is = same g (goal.at.returns-clause-verdict g c).In_ok-take_certificate in
    subst (λ (p : Problem). IsVerdict p c.args.certificate.now c.verdict_by.result) is c.verdict_by.ensures.verdict

pub returns-clause-bound : goal.returns-clause-bound
returns-clause-bound g c =
    let is = same g (goal.at.returns-clause-bound g c).In_ok-take_certificate in
    subst (λ (p : Problem). ShowsBound p c.args.certificate.now c.verdict_by.result) is c.verdict_by.ensures.bound

pub returns-clause-optimal : goal.returns-clause-optimal
returns-clause-optimal g c =
    let is = same g (goal.at.returns-clause-optimal g c).In_ok-take_certificate in
    subst (λ (p : Problem). ShowsOptimal p c.args.certificate.now c.verdict_by.result) is c.verdict_by.ensures.optimal

pub returns-clause-marks : goal.returns-clause-marks
returns-clause-marks g c =
    let is = same g (goal.at.returns-clause-marks g c).In_ok-take_certificate in
    subst (λ (p : Problem). ShowsMarks p c.args.certificate.now c.verdict_by.result) is c.verdict_by.ensures.marks
