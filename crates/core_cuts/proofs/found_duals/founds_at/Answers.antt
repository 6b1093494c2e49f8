use Rattle.std.proofs.Common.{ℕ, Option, IfSome, List, ◌+◌, ◌*◌, ◌≡◌, Contains, subst, ap, arith}
use Rattle.std.specs.List.{AllZip}
use Rattle.std.proofs.lemmas.List.{take_all}
use Rattle.std.proofs.lemmas.List.Elements.{Contains-get_or}
use Rattle.hub_spec.specs.Problem.{commodities}
use Rattle.hub_spec.proofs.Commodities.{next_route, commodity_index, commodity_at_index, length_commodities}
use Rattle.core_cuts.specs.Readings.{FoundDual, IsFound}
use Rattle.core_cuts.proofs.found_duals.founds_at.Goals as goal

pub returns-in-None-clause-none : goal.returns-in-None-clause-none
returns-in-None-clause-none c _ =
    let n = c.args.instance.now.size in
    let i = c.loop-i.i in
    let j = c.loop-j.j in (
      (i, j),
      subst (Contains (commodities n)) (commodity_at_index n i j (0, 0) (omega arith) (omega arith))
          (Contains-get_or (commodities n) (i * n + j) (0, 0) (omega (arith, length_commodities n, commodity_index n i j (omega arith) (omega arith)))),
      c.in_ok-found.ensures.none c.in-None.is,
    )

pub loop-j-preserved : goal.loop-j-preserved
loop-j-preserved c =
    let p = c.args.instance.now in (
      rw c.in_ok-push-in-Some.ensures.items
          (next_route (IsFound p c.args.hubs.now) p.size c.loop-i.i c.loop-j.j c.loop-j.founds.items c.in-Some.found (omega arith) (omega arith)
          c.loop-j.invariant.0
          (subst (λ (o : Option FoundDual). IfSome o (λ d. IsFound p c.args.hubs.now (c.loop-i.i, c.loop-j.j) d)) c.in-Some.is c.in_ok-found.ensures.found)),
      c.in_ok-found.ensures.ahead,
    )

pub returns-clause-some : goal.returns-clause-some
returns-clause-some c =
    let p = c.args.instance.now in
    let square : c.loop-i.i * p.size ≡ p.size * p.size = ap (λ (m : ℕ). m * p.size) (omega arith) in
    subst (λ (cs : List (ℕ × ℕ)). AllZip (IsFound p c.args.hubs.now) cs c.loop-i.founds.items)
    (take_all (c.loop-i.i * p.size) (commodities p.size) (omega (arith, square, length_commodities p.size))) c.loop-i.invariant.0
