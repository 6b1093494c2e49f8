use Rattle.std.proofs.Common.{ℕ, Option, refl, subst, ◌∙◌}
use Rattle.std.specs.Prelude.{IfSome}
use Rattle.cert_conditions.specs.Steps.{IsKnownWith}
use Rattle.cert_conditions.proofs.checks.Checks.dual_holds.Goals as goal

pub returns-in-Some-clause-holds : goal.returns-in-Some-clause-holds
returns-in-Some-clause-holds c =
    let dual = c.args.self.now.dual in
    let known : IsKnownWith dual c.in-Some.part = subst (λ (part : Option ℕ). IfSome part (IsKnownWith dual)) c.in-Some.is c.requires in
    (λ _. known (c.if-part.true ∙ c.part.ensures), λ _. refl)
