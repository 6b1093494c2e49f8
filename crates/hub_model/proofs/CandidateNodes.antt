-- Nodes that are among the candidates, and how many candidates there are.
use Rattle.std.proofs.Common.{ℕ, ◌<◌, List, All, Contains, ◌≤◌, length}
use Rattle.std.proofs.lemmas.List.Elements.{All-weaker, All-contains}
use Rattle.hub_spec.specs.Problem.{Problem, IsProblem}
use Rattle.hub_spec.proofs.Limits.{few_candidates}

pub among_candidates : (p : Problem) (hubs : List ℕ) → IsProblem p → All (Contains p.candidates) hubs
    → All (λ k. k < p.size) hubs
among_candidates p hubs ok among =
    All-weaker (Contains p.candidates) (λ k. k < p.size)
    (λ k c. All-contains (λ m. m < p.size) p.candidates k ok.candidates_are_nodes c) hubs among

pub few_places : (p : Problem) → IsProblem p → length p.candidates ≤ p.size
few_places p ok = few_candidates p.candidates p.size ok.candidates_ascend ok.candidates_are_nodes
