use Rattle.std.proofs.Common.{◌≡◌, ℕ, ◌∙◌, subst, arith}
use Rattle.unit_duals.specs.Leasts.{IsFirstLeast}
use Rattle.unit_duals.specs.Hops.{hop_by}
use Rattle.unit_duals.proofs.FirstRoutes.{first_least_is}
use Rattle.unit_duals.proofs.hops.best_hop.Goals as goal

pub returns-clause-length : goal.returns-clause-length
returns-clause-length c =
    let l = c.args.legs.now in
    let all : c.loop-y.y ≡ l.hubs = omega (arith, c.loop-y.auto.y-end (omega arith)) in
    c.loop-y.invariant.least ∙ first_least_is (hop_by l c.args.x c.args.j) l.hubs c.loop-y.last
    (subst (λ (y : ℕ). IsFirstLeast (hop_by l c.args.x c.args.j) y c.loop-y.last) all c.loop-y.invariant.best)
