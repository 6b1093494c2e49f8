use Rattle.std.proofs.Common.{length, subst}
use Rattle.hub_spec.specs.Problem.{Problem}
use Rattle.unit_duals.specs.Lengths.{IsLegRow}
use Rattle.leg_duals.specs.CandidateLegs.{collection_length}
use Rattle.leg_duals.proofs.CandidateTables.{row_start, leg_row_of, collection_length_limit}
use Rattle.leg_duals.proofs.candidate_legs.CandidateLegs.collection_legs.Goals as goal

pub row-requires : goal.row-requires
row-requires c =
    let p = c.self.inside.instance.now in
    let within = rw (← c.self.view_is) at c.requires in
    row_start p.size c.self.inside.places c.args.i (collection_length p) c.deref.result.now c.self.inside.collect.items c.self.invariant.collect
    within c.deref.ensures.value

pub returns : goal.returns
returns c =
    let p = c.self.inside.instance.now in
    let within = rw (← c.self.view_is) at c.requires in
    subst (λ (r : Problem). IsLegRow (length r.candidates) (collection_length r c.args.i) c.row.result.now) c.self.view_is
    (leg_row_of p p.size c.self.inside.places c.args.i (collection_length p) c.deref.result.now c.self.inside.collect.items c.row.result.now
    c.self.invariant.collect c.self.invariant.places within c.deref.ensures.value c.row.ensures.long c.row.ensures.each
    (λ x below. collection_length_limit p c.args.i x c.self.invariant.problem within below))
