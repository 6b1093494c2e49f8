use Rattle.std.proofs.Common.{◌≡◌, ℕ, ◌+◌, ◌*◌, ◌<◌, List, length, All, sym, subst, arith}
use Rattle.leg_duals.proofs.CandidateTables.{between_table}
use Rattle.leg_duals.proofs.candidate_filling.set_between.Goals as goal

pub set_trunk-requires-clause-hubs : goal.set_trunk-requires-clause-hubs
set_trunk-requires-clause-hubs c =
    subst (All (λ k. k < c.args.instance.now.size)) (sym c.candidates.ensures.value) c.candidates.ensures.problem.candidates_are_nodes

pub set_trunk-requires-clause-long : goal.set_trunk-requires-clause-long
set_trunk-requires-clause-long c =
    subst (λ (ks : List ℕ). length c.args.table.now ≡ (0 + length ks) * (0 + length ks)) (sym c.candidates.ensures.value) (omega (arith, c.requires))

pub returns : goal.returns
returns c =
    between_table c.args.instance.now (0 + length c.candidates.result.now) c.candidates.result.now c.set_trunk.new.trunk (omega arith)
    c.candidates.ensures.value c.set_trunk.ensures.legs
