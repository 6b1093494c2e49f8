-- The open nodes of a branch, and the commodity for which they are infeasible together.
use Rattle.std.proofs.Common.{◌≡◌, ℕ, ◌+◌, ◌≤◌, [], ◌∷◌, length, Contains, Option, Some, None, ⊎_elim, refl, ap, arith}
use Rattle.std.specs.Prelude.{option_map}
use Rattle.std.specs.List.Sorted.{IsStrictlyIncreasing}
use Rattle.std.proofs.lemmas.List.Elements.{All-contains}
use Rattle.hub_spec.specs.Problem.{Problem, commodities}
use Rattle.hub_spec.specs.Plans.{IsCandidateSet}
use Rattle.hub_spec.specs.Lacking.{lacking}
use Rattle.hub_spec.specs.Trees.{Branching, IsSplit, IsBranch, block, no_route, preorder}
use Rattle.hub_spec.proofs.Lacking.{lacked_none}
use Rattle.hub_spec.proofs.Sets.{All-from_contains}
use Rattle.search_spec.specs.Choices.{with_nodes, all_open, blocked_end}
use Rattle.search_spec.proofs.OpenNodes.{apart_ascending, in_with_nodes, with_nodes_ascends, length_with_nodes}
use Rattle.search_spec.proofs.RuleParts.{some_serves}

open_candidate : (p : Problem) (b : Branching) (k : ℕ) → IsBranch p b → Contains (with_nodes b.free b.inside) k → Contains p.candidates k
open_candidate p b k is opened =
    ⊎_elim (λ free. All-contains (Contains p.candidates) b.free k is.free_are free)
    (λ inside. All-contains (Contains p.candidates) b.inside k is.inside_are inside) (in_with_nodes b.free b.inside k opened)

pub open_ascends : (b : Branching) → IsSplit b → IsStrictlyIncreasing (with_nodes b.free b.inside)
open_ascends b is =
    with_nodes_ascends b.free b.inside (apart_ascending b.free is.free_ascends) is.inside_apart is.inside_ascends

pub open_set : (p : Problem) (b : Branching) → IsBranch p b → 1 ≤ length b.inside + length b.free → IsCandidateSet p (all_open b)
unfolding all_open
open_set p b is some = record {
  some_hub = omega (arith, some, length_with_nodes b.free b.inside);
  ascend = open_ascends b is.split;
  are_candidates = All-from_contains (Contains p.candidates) (with_nodes b.free b.inside) (λ k c. open_candidate p b k is c);
}

-- they are feasible for each commodity where no length is limited
pub never_blocked : (p : Problem) (b : Branching) → p.longest ≡ None → 1 ≤ length b.inside + length b.free → blocked_end p b ≡ None
unfolding blocked_end lacking all_open
never_blocked p b any some =
    let hubs = with_nodes b.free b.inside in
    let none = lacked_none p hubs (commodities p.size) (some_serves p hubs any (omega (arith, some, length_with_nodes b.free b.inside))) in
    rw none refl

-- the commodity that is returned for them gives the line of the end
pub block_line : (p : Problem) (b : Branching) (told : Option (ℕ × ℕ)) → told ≡ lacking p (all_open b)
    → option_map (λ (c : ℕ × ℕ). no_route c ∷ []) told ≡ option_map preorder (blocked_end p b)
unfolding blocked_end
block_line p b None is = ap (λ (o : Option (ℕ × ℕ)). option_map preorder (option_map (λ (c : ℕ × ℕ). block c) o)) is
block_line p b (Some c) is = ap (λ (o : Option (ℕ × ℕ)). option_map preorder (option_map (λ (c : ℕ × ℕ). block c) o)) is
