use Rattle.std.proofs.Common.{◌≡◌, ℕ, Option, IfSome, subst, sym, ap}
use Rattle.std.specs.Int.{◌∣◌}
use Rattle.hub_spec.specs.Cuts.{Cut}
use Rattle.hub_spec.specs.Limits.{most_denominator}
use Rattle.core_cuts.specs.FoundCuts.{brought_cut}
use Rattle.core_cuts.proofs.brought_cuts.fit_cut.Goals as goal

pub within_sums-requires-clause-divides : goal.within_sums-requires-clause-divides
within_sums-requires-clause-divides c =
    let is = subst (λ (o : Option Cut). IfSome o (λ cut. cut ≡ brought_cut c.args.part c.args.founds.now)) c.in-Some.is c.in_ok-cut.ensures.is in
    subst (λ (n : ℕ). n ∣ most_denominator) (sym (ap (λ (x : Cut). x.part) is)) (c.divides.ensures.0 c.if-not-divides.false)
