use Rattle.std.proofs.Common.{◌≡◌, ℕ, ◌+◌, ◌*◌, length, ap, ap₂, ◌∙◌, arith}
use Rattle.hub_spec.specs.Problem.{distance}
use Rattle.leg_duals.specs.CandidateLegs.{delivery_length}
use Rattle.leg_duals.proofs.CandidateTables.{leg_more}
use Rattle.leg_duals.proofs.candidate_filling.set_deliver.Goals as goal

pub loop-x-preserved : goal.loop-x-preserved
loop-x-preserved c =
    let p = c.args.instance.now in
    let is : c.leg.result ≡ delivery_length p c.loop-j.j c.loop-x.x = c.leg.ensures ∙ ap₂ (λ (a b : ℕ). a * distance p b c.loop-j.j) c.deliver.ensures.value c.candidate-from.ensures.value in
    leg_more (length p.candidates) (delivery_length p) c.loop-x.table p.size c.loop-j.j c.loop-x.x
    (c.loop-j.j * c.places_of-places.result + c.loop-x.x) c.leg.result (omega (arith, c.loop-j-test.true, c.size-j-end.ensures.value))
    (omega (arith, c.loop-x-test.true, c.places_of-places.ensures.value))
    (ap (λ (n : ℕ). c.loop-j.j * n + c.loop-x.x) c.places_of-places.ensures.value) (omega (arith, c.loop-x.auto.table, c.requires)) is
    c.loop-x.invariant
