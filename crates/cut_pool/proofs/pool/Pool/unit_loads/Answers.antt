use Rattle.std.proofs.Common.{◌≡◌, ◌++◌, ◌∷◌, [], ◌<◌, ℕ, List, Bor, length, map, sym, ap, ap₂, subst, ◌∙◌, arith}
use Rattle.std.proofs.Math.Seq.{take_all}
use Rattle.std.proofs.lemmas.List.{length-map, map_push}
use Rattle.cut_pool.specs.Entries.{PoolState, unit_loads}
use Rattle.cut_pool.specs.Shorts.{unit_row}
use Rattle.cut_pool.proofs.Entered.{length-entries}
use Rattle.cut_pool.proofs.UnitSums.{loads_taken}
use Rattle.cut_pool.proofs.pool.Pool.unit_loads.Goals as goal

pub unit_row-requires : goal.unit_row-requires
unit_row-requires c =
    subst (λ (p : PoolState). c.loop-place.place < length p.entries) c.self.view_is
    (omega (arith, c.loop-place-test.true, c.len-place-end.ensures, length-entries c.self.inside c.self.invariant))

pub loop-place-preserved : goal.loop-place-preserved
loop-place-preserved c =
    let low = subst (λ (p : PoolState). c.loop-place.place < length p.entries) c.self.view_is
    (omega (arith, c.loop-place-test.true, c.len-place-end.ensures, length-entries c.self.inside c.self.invariant)) in
    let row = λ (r : Bor (List ℕ)). r.now in
    ap (map row) c.in_ok-push.ensures.items ∙ map_push row c.loop-place.rows.items c.unit_row.result
    ∙ ap₂ (λ (xs : List (List ℕ)) (x : List ℕ). xs ++ x ∷ []) c.loop-place.invariant c.unit_row.ensures
    ∙ sym (loads_taken c.args.self.now.entries c.loop-place.place low)

pub returns : goal.returns
returns c =
    let es = c.args.self.now.entries in
    let long = ap (λ (p : PoolState). length p.entries) c.self.view_is in
    c.loop-place.invariant
    ∙ take_all c.loop-place.place (unit_loads es)
    (omega (arith, c.loop-place-test.false, c.len-place-end.ensures, length-entries c.self.inside c.self.invariant, long, length-map es unit_row))
