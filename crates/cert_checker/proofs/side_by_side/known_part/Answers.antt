use Rattle.std.proofs.Common.{ℕ, Option, sym, ap, subst}
use Rattle.hub_spec.specs.Problem.{Problem}
use Rattle.cert_checker.specs.Duals.{IsFirstFailing}
use Rattle.cert_checker.specs.Walks.{IsKnownCut}
use Rattle.cert_checker.proofs.Holding.{cut_known}
use Rattle.cert_checker.proofs.side_by_side.known_part.Goals as goal

pub returns-in-None : goal.returns-in-None
returns-in-None g c =
    let p = c.args.checks.now.instance.now in
    let cut = c.args.cut.now in
    let told = subst (λ (q : Problem). IsFirstFailing q cut.part cut.duals c.first_failing.result) (ap (λ i. i.now) c.instance.ensures) c.first_failing.ensures in
    subst (IsKnownCut p.size p cut) (sym c.part.ensures) (cut_known p cut (subst (λ (f : Option ℕ). IsFirstFailing p cut.part cut.duals f) c.in-None.is told))
