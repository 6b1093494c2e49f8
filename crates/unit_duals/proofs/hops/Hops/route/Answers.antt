use Rattle.std.proofs.Common.{◌≡◌, ℕ, ◌+◌, sym, ap, subst, ◌∙◌, arith}
use Rattle.unit_duals.specs.Lengths.{RoomedLegs, way}
use Rattle.unit_duals.specs.Leasts.{IsFirstLeast}
use Rattle.unit_duals.specs.Hops.{IsFirstRoute}
use Rattle.unit_duals.proofs.FirstRoutes.{route_by, route_is, first_route}
use Rattle.unit_duals.proofs.hops.Hops.route.Goals as goal

pub returns-clause-route : goal.returns-clause-route
returns-clause-route c =
    let l = c.args.self.now.legs in
    let count = ap (λ (v : RoomedLegs). v.legs.count) c.self.view_is in
    let hubs = ap (λ (v : RoomedLegs). v.legs.hubs) c.self.view_is in
    let all : c.loop-x.x ≡ l.hubs = omega (arith, hubs, c.loop-x.auto.x-end (omega (arith, hubs, c.requires.some_hub))) in
    let best = subst (λ (x : ℕ). IsFirstLeast (route_by l c.args.first.now c.args.j) x c.loop-x.best) all c.loop-x.invariant.best in
    subst (λ (n : ℕ). IsFirstRoute l c.args.first.now c.args.j (n + c.loop-x.best) (n + c.hop-2.result.last)) (sym count)
    (first_route l c.args.first.now c.args.j c.loop-x.best c.hop-2.result.last best c.hop-2.ensures.last)

pub returns-clause-length : goal.returns-clause-length
returns-clause-length c =
    let l = c.args.self.now.legs in
    let count = ap (λ (v : RoomedLegs). v.legs.count) c.self.view_is in
    subst (λ (n : ℕ). c.loop-x.least ≡ way l c.args.first.now (n + c.loop-x.best) (n + c.hop-2.result.last) c.args.j) (sym count)
    (c.loop-x.invariant.least ∙ route_is l c.args.first.now c.args.j c.loop-x.best c.hop-2.result.last c.hop-2.ensures.last)
