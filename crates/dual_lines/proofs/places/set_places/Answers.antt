use Rattle.std.proofs.Common.{ℕ, ◌<◌, Fits, List, length, slice_index, ap, rules, arith}
use mir.Syntax.{w32}
use Rattle.hub_model.proofs.CandidateNodes.{few_places}
use Rattle.dual_lines.proofs.SetPlaces.{places_more}
use Rattle.dual_lines.proofs.places.set_places.Goals as goal

fits : (n : ℕ) → n < 200 → Fits w32 n
fits n low = search (rules, arith)

pub overflow_cast-places : goal.overflow_cast-places
overflow_cast-places c =
    let p = c.args.instance.now in
    fits c.loop-x.x (omega (arith, c.loop-x-test.true, ap (λ (ms : List ℕ). length ms) c.candidates-candidates.ensures.value, few_places p c.candidates-candidates.ensures.problem, c.candidates-candidates.ensures.problem.size_limit))

pub loop-x-preserved : goal.loop-x-preserved
loop-x-preserved c =
    let p = c.args.instance.now in
    let x = c.loop-x.x in
    let same = c.candidates-candidates.ensures.value in
    let within : x < length p.candidates = omega (arith, c.loop-x-test.true, ap (λ (ms : List ℕ). length ms) same) in
    places_more p x (slice_index c.candidates-candidates.result.now x) c.loop-x.places c.candidates-candidates.ensures.problem within
    (ap (λ (ms : List ℕ). slice_index ms x) same) c.loop-x.invariant (search rules)
