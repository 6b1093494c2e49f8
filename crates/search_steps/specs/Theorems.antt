-- What is proved of the master's weights and point, and of the choices by them; each statement is the contract of the
-- public function of its name.
use Rattle.std.specs.Prelude.{◌≡◌, ℕ, ◌≤◌, ℤ, int_lt, List, length, ◌↔◌}
use Rattle.std.specs.List.Sorted.{IsStrictlyIncreasing}
use Rattle.hub_spec.specs.Problem.{Problem, IsProblem}
use Rattle.hub_spec.specs.Trees.{Branching, IsBranch}
use Rattle.search_spec.specs.States.{Advice}
use Rattle.search_spec.specs.Choices.{IsSoundAdvising, first_best, picked, nearest_half}
use Rattle.search_steps.specs.Advising.{master_advising}
use Rattle.search_steps.specs.Choosing.{IsGreatest, IsNearest, IsPicked}

-- the weights and point of the master are sound
abbrev pub AdvisingIsSound : Type 0
AdvisingIsSound = (p : Problem) → IsProblem p → IsSoundAdvising p (master_advising p)

-- a node has the greatest point exactly where it is the first of the ascending nodes that none beats
abbrev pub GreatestIsOne : Type 0
GreatestIsOne = (point : ℕ → ℤ) (ks : List ℕ) (k : ℕ) → IsStrictlyIncreasing ks → 1 ≤ length ks
    → IsGreatest point ks k ↔ (k ≡ first_best (λ i j. int_lt (point j) (point i)) ks)

-- a node is the free one nearest to a half exactly where it is the node to branch on
abbrev pub NearestIsOne : Type 0
NearestIsOne = (a : Advice) (b : Branching) (k : ℕ) → IsStrictlyIncreasing b.free → 1 ≤ length b.free
    → IsNearest a b.free k ↔ (k ≡ nearest_half a b)

-- `IsPicked` describes just the set that is picked, whatever the weights and the point
abbrev pub PickedIsOne : Type 0
PickedIsOne = (p : Problem) (a : Advice) (b : Branching) (set : List ℕ) → IsProblem p → IsBranch p b → 1 ≤ length b.free
    → IsPicked a b set ↔ (set ≡ picked p a b)
