use Rattle.std.proofs.Common.{◌≡◌, ◌+◌, ◌++◌, ◌∷◌, [], ◌∙◌, ℕ, filter, get_or, unsigned_abs, FitsSigned, refl, ap, subst, arith, rules}
use Rattle.std.specs.Int.{w64}
use Rattle.std.proofs.lemmas.Int.{to_z-of_z}
use Rattle.frac_rows.specs.Rows.{row_at, objective}
use Rattle.core_cuts.specs.Bodies.{is_taken}
use Rattle.core_cuts.proofs.TakenWays.{taken_next}
use Rattle.core_cuts.proofs.taken_ways.taken_ways.Goals as goal

pub loop-x-preserved : goal.loop-x-preserved
loop-x-preserved c =
    let row = c.in_ok-objective.objective.items in
    let x = c.loop-x.x in
    let y = c.index.result.now in
    let e : ℕ × ℕ = get_or c.args.edges.now x (0, 0) in
    let whole : row ≡ objective c.args.rows.now = c.in_ok-objective.ensures ∙ ap (row_at c.args.rows.now) c.constraints.ensures.value in
    let fits : FitsSigned w64 y = search rules in
    let often : c.unsigned_abs-often.result ≡ unsigned_abs y = rw (to_z-of_z w64 y fits) at c.unsigned_abs-often.ensures.value in
    taken_next c.args.edges.now (objective c.args.rows.now) c.args.first x (0, 0) e y c.loop-x.ways.items c.add_taken.new.ways.items
    c.loop-x-test.true (omega (arith, c.requires, c.loop-x-test.true)) refl (subst (λ r. y ≡ get_or r (c.args.first + x) y) whole c.index.ensures)
    (c.in_ok-add_taken.ensures ∙ ap (λ (n : ℕ). c.loop-x.ways.items ++ filter is_taken ((e.0, e.1, n) ∷ [])) often)
    ∙ c.loop-x.invariant
