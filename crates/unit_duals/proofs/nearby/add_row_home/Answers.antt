use Rattle.std.proofs.Common.{◌≡◌, ℕ, ◌+◌, ◌*◌, ◌<◌, ◌≤◌, length, length-set, set, slice_index, sym, subst, arith}
use Rattle.unit_duals.specs.Cells.{cell}
use Rattle.unit_duals.specs.Nearness.{IsFarHome, IsNearPart}
use Rattle.unit_duals.proofs.Listing.{IsNearRowAt, near_part_by, near_row_start, near_row_more, near_row_end, near_room}
use Rattle.unit_duals.proofs.TableCells.{row_within}
use Rattle.unit_duals.proofs.nearby.add_row_home.Goals as goal

pub loop-e-init : goal.loop-e-init
loop-e-init c =
    let l = c.args.legs.now in
    let fits = row_within c.args.t l.count l.count c.requires.place in
    subst (λ (m : ℕ). IsNearRowAt l.size l.count (IsFarHome l c.args.back.now) c.args.t 0 c.args.start
    (set c.args.starts.now (c.args.t * m) c.args.start) c.args.nodes.now) (sym c.count.ensures.value)
    (near_row_start l.size l.count (IsFarHome l c.args.back.now) c.args.t c.args.start c.args.starts.now c.args.nodes.now
    c.requires.place (omega (arith, fits, c.requires.starts)) c.requires.before)

pub add_near-end-requires-clause-room : goal.add_near-end-requires-clause-room
add_near-end-requires-clause-room c =
    let l = c.args.legs.now in
    omega (
      arith,
      near_room l.size l.count c.args.t c.loop-e.e c.loop-e.end (length c.args.nodes.now) c.loop-e-test.true c.requires.place
          c.loop-e.invariant.small c.requires.nodes,
      c.last_row-last.ensures.long,
    )

pub loop-e-preserved : goal.loop-e-preserved
loop-e-preserved c =
    let l = c.args.legs.now in
    let back = c.args.back.now in
    let t = c.args.t in
    let e = c.loop-e.e in
    let fits = row_within t l.count l.count c.requires.place in
    let back_is = subst (λ (n : ℕ). (j : ℕ) → j < n → slice_index c.row.result.now j ≡ cell n back e j)
    c.size-size.ensures.value c.row.ensures.each in
    let trunk_is = c.trunk_row.ensures.each t (omega arith) in
    let part = near_part_by l.size (λ j. slice_index c.row.result.now j ≤ slice_index c.trunk_row.result.now t + slice_index c.last_row-last.result.now j)
    (IsFarHome l back t e) c.loop-e.end c.add_near-end.result c.add_near-end.new.nodes
    (λ j below far. (let b = back_is j below in let d = c.last_row-last.ensures.each j below in omega (arith, far, b, d, trunk_is)))
    (subst (λ (n : ℕ). IsNearPart n (λ j. slice_index c.row.result.now j ≤ slice_index c.trunk_row.result.now t + slice_index c.last_row-last.result.now j)
    c.loop-e.end c.add_near-end.result c.add_near-end.new.nodes) c.last_row-last.ensures.long c.add_near-end.ensures.list) in
    subst (λ (m : ℕ). IsNearRowAt l.size l.count (IsFarHome l back) t (e + 1) c.add_near-end.result
    (set c.loop-e.starts (t * m + e + 1) c.add_near-end.result) c.add_near-end.new.nodes) (sym c.count.ensures.value)
    (near_row_more l.size l.count (IsFarHome l back) t e c.loop-e.end c.add_near-end.result c.loop-e.starts c.loop-e.nodes c.add_near-end.new.nodes
    c.loop-e-test.true c.requires.place (omega (arith, fits, c.requires.starts, length-set {A = ℕ})) c.add_near-end.ensures.kept (omega arith)
    (omega (arith, c.last_row-last.ensures.long)) part c.loop-e.invariant)

pub returns : goal.returns
returns c =
    let l = c.args.legs.now in
    let same : c.loop-e.e ≡ c.args.t = omega arith in
    near_row_end l.size l.count (IsFarHome l c.args.back.now) c.args.t c.loop-e.end c.loop-e.starts c.loop-e.nodes
    (subst (λ (x : ℕ). IsNearRowAt l.size l.count (IsFarHome l c.args.back.now) c.args.t x c.loop-e.end c.loop-e.starts c.loop-e.nodes)
    same c.loop-e.invariant)
