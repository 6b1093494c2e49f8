use Rattle.std.proofs.Common.{length, subst}
use Rattle.hub_spec.specs.Problem.{Problem}
use Rattle.unit_duals.specs.Lengths.{IsLegRow}
use Rattle.leg_duals.specs.CandidateLegs.{trunk_length}
use Rattle.leg_duals.proofs.CandidateTables.{row_start, leg_row_of, trunk_length_limit}
use Rattle.leg_duals.proofs.candidate_legs.CandidateLegs.trunk_legs.Goals as goal

pub row-requires : goal.row-requires
row-requires c =
    let p = c.self.inside.instance.now in
    let within = rw (← c.self.view_is) at c.requires in
    row_start (length p.candidates) c.self.inside.places c.args.x (trunk_length p) c.deref.result.now c.self.inside.trunk.items c.self.invariant.trunk
    within c.deref.ensures.value

pub returns : goal.returns
returns c =
    let p = c.self.inside.instance.now in
    let within = rw (← c.self.view_is) at c.requires in
    subst (λ (r : Problem). IsLegRow (length r.candidates) (trunk_length r c.args.x) c.row.result.now) c.self.view_is
    (leg_row_of p (length p.candidates) c.self.inside.places c.args.x (trunk_length p) c.deref.result.now c.self.inside.trunk.items c.row.result.now
    c.self.invariant.trunk c.self.invariant.places within c.deref.ensures.value c.row.ensures.long c.row.ensures.each
    (λ y below. trunk_length_limit p c.args.x y c.self.invariant.problem within below))
