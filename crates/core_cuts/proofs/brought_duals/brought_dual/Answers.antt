use Rattle.std.proofs.Common.{◌/◌, ◌≤◌, sym, subst}
use Rattle.core_cuts.specs.Readings.{FoundDual}
use Rattle.core_cuts.proofs.TimesDuals.{some_quotient}
use Rattle.core_cuts.proofs.brought_duals.brought_dual.Goals as goal

pub times_dual-requires-clause-some : goal.times_dual-requires-clause-some
times_dual-requires-clause-some c =
    subst (λ (f : FoundDual). 1 ≤ c.args.part / f.part) (sym c.found.view_is)
    (some_quotient c.args.part c.args.found.now.part c.requires.divides c.requires.part)
