-- Hubs are nodes, and no more than there are nodes.
use Rattle.std.proofs.Common.{ℕ, ◌≤◌, List, length}
use Rattle.hub_spec.specs.Problem.{Problem, IsProblem}
use Rattle.hub_spec.specs.Plans.{IsHubSet}
use Rattle.hub_spec.proofs.Limits.{few_candidates, hubs_are_nodes}

pub few_hubs : (p : Problem) (hubs : List ℕ) → IsProblem p → IsHubSet p hubs → length hubs ≤ p.size
few_hubs p hubs ok set = few_candidates hubs p.size set.ascend (hubs_are_nodes p hubs ok.limits set)
