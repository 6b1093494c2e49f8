use Rattle.std.proofs.Common.{◌≡◌, All}
use Rattle.std.specs.Arc.{arc_value}
use Rattle.desks.proofs.partners.take_out.Given as goal

abbrev pub invariant-loop-at : goal.invariant-loop-at
invariant-loop-at g l = All (λ a. g.T.Told.holds l._desk (arc_value a)) l.kept.items × (l.kept.len ≡ l.at-end)
