use Rattle.std.proofs.Common.{subst}
use Rattle.cert_spec.specs.Conditions.{Dual}
use Rattle.cert_conditions.specs.Steps.{Tried, IsDualOfEach, sum_tests}
use Rattle.cert_conditions.specs.declared.checks.Checks.{Checks}
use Rattle.cert_conditions.proofs.Trying.{tried_behind}
use Rattle.cert_conditions.proofs.checks.Checks.failed_dual.Goals as goal

pub returns-then-dual_holds-clause-tried : goal.returns-then-dual_holds-clause-tried
returns-then-dual_holds-clause-tried c =
    let s = c.args.self.now in
    let found = c.failed_sum.result in
    tried_behind Dual s.line s.line (IsDualOfEach s.dual) (sum_tests s) found (c.dual_holds.ensures.holds.0 c.if-dual_holds.true)
    (subst (λ (t : Checks). Tried (sum_tests t) found t.line) c.dual_holds.ensures.same c.failed_sum.ensures)
