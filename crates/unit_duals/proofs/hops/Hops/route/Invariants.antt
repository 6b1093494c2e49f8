use Rattle.std.proofs.Common.{◌≡◌}
use Rattle.unit_duals.specs.Leasts.{IsFirstLeast}
use Rattle.unit_duals.proofs.FirstRoutes.{route_by}
use Rattle.unit_duals.proofs.hops.Hops.route.Given as goal

abbrev pub invariant-loop-x : goal.invariant-loop-x
invariant-loop-x l =
    record { best : IsFirstLeast (route_by l.self.legs l.first l.j) l.x l.best; least : l.least ≡ route_by l.self.legs l.first l.j l.best }
