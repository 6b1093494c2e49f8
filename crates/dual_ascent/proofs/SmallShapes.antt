-- An instance has no more candidates than nodes, so its shape is small.
use Rattle.std.proofs.Common.{◌≤◌, length, arith}
use Rattle.hub_spec.specs.Limits.{most_nodes}
use Rattle.hub_spec.specs.Problem.{Problem, IsProblem}
use Rattle.hub_spec.proofs.Limits.{few_candidates}

pub few_places : (p : Problem) → IsProblem p → length p.candidates ≤ most_nodes
few_places p ok =
    omega (arith, few_candidates p.candidates p.size ok.limits.candidates_ascend ok.limits.candidates_are_nodes, ok.limits.size_limit)
