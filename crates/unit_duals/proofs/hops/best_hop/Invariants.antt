use Rattle.std.proofs.Common.{◌≡◌}
use Rattle.unit_duals.specs.Leasts.{IsFirstLeast}
use Rattle.unit_duals.specs.Hops.{hop_by}
use Rattle.unit_duals.proofs.hops.best_hop.Given as goal

abbrev pub invariant-loop-y : goal.invariant-loop-y
invariant-loop-y l = record { best : IsFirstLeast (hop_by l.legs l.x l.j) l.y l.last; least : l.least ≡ hop_by l.legs l.x l.j l.last }
