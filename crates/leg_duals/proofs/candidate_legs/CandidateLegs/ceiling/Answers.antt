use Rattle.std.proofs.Common.{arith}
use Rattle.leg_duals.proofs.CandidateTables.{ceiling_limit}
use Rattle.leg_duals.proofs.candidate_legs.CandidateLegs.ceiling.Goals as goal

pub returns-clause-limit : goal.returns-clause-limit
returns-clause-limit c =
    omega (arith, c.self.invariant.ceiling, ceiling_limit c.self.inside.instance.now c.self.invariant.problem)
