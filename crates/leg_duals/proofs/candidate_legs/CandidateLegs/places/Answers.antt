use Rattle.std.proofs.Common.{arith}
use Rattle.hub_model.proofs.CandidateNodes.{few_places}
use Rattle.leg_duals.proofs.candidate_legs.CandidateLegs.places.Goals as goal

pub returns-clause-limit : goal.returns-clause-limit
returns-clause-limit c =
    let ok = c.self.invariant.problem in
    omega (arith, c.self.invariant.places, few_places c.self.inside.instance.now ok, ok.size_limit)
