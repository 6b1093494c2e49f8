use Rattle.std.proofs.Common.{All}
use Rattle.std.specs.Arc.{arc_value}
use Rattle.desks.specs.Posts.{IsHeardUnder}
use Rattle.desks.proofs.places.hear_from.Given as goal

abbrev pub invariant-loop : goal.invariant-loop
invariant-loop g l = IsHeardUnder l.key l.from × All (λ a. g.T.Told.holds l.key (arc_value a)) l.items.items
