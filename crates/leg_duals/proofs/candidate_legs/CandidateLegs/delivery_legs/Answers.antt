use Rattle.std.proofs.Common.{length, subst}
use Rattle.hub_spec.specs.Problem.{Problem}
use Rattle.unit_duals.specs.Lengths.{IsLegRow}
use Rattle.leg_duals.specs.CandidateLegs.{delivery_length}
use Rattle.leg_duals.proofs.CandidateTables.{row_start, leg_row_of, delivery_length_limit}
use Rattle.leg_duals.proofs.candidate_legs.CandidateLegs.delivery_legs.Goals as goal

pub row-requires : goal.row-requires
row-requires c =
    let p = c.self.inside.instance.now in
    let within = rw (← c.self.view_is) at c.requires in
    row_start p.size c.self.inside.places c.args.j (delivery_length p) c.deref.result.now c.self.inside.deliver.items c.self.invariant.deliver
    within c.deref.ensures.value

pub returns : goal.returns
returns c =
    let p = c.self.inside.instance.now in
    let within = rw (← c.self.view_is) at c.requires in
    subst (λ (r : Problem). IsLegRow (length r.candidates) (delivery_length r c.args.j) c.row.result.now) c.self.view_is
    (leg_row_of p p.size c.self.inside.places c.args.j (delivery_length p) c.deref.result.now c.self.inside.deliver.items c.row.result.now
    c.self.invariant.deliver c.self.invariant.places within c.deref.ensures.value c.row.ensures.long c.row.ensures.each
    (λ x below. delivery_length_limit p c.args.j x c.self.invariant.problem within below))
