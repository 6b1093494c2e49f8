-- The way from the root of a tree down to a branch, and what it leaves to be filled.
use Rattle.std.specs.Prelude.{◌≡◌, ℕ, ◌<◌, Bool, List, [], ◌∷◌, length, reverse, All, Contains, if◌then◌else◌}
use Rattle.std.specs.List.Sorted.{IsStrictlyIncreasing}
use Rattle.hub_spec.specs.Trees.{Branching, open_child, closed_child}
use Rattle.cert_lines.specs.declared.trails.Step.{Step}
use Rattle.cert_lines.specs.Marks.{marked}

-- the branch where none of these candidates is decided
abbrev pub undecided : List ℕ → Branching
undecided candidates = record { inside = []; outside = []; free = candidates }

-- the child that the step goes into
abbrev pub child : Branching → Step → Branching
child b step = if step.opened then open_child b step.node else closed_child b step.node

-- the branch that the steps lead to, the last step first
abbrev pub branch_at : List ℕ → List Step → Branching
branch_at candidates [] = undecided candidates
branch_at candidates (step ∷ before) = child (branch_at candidates before) step

-- the closed children of the steps into open ones, the last step first
abbrev pub left_behind : List ℕ → List Step → List Branching
left_behind candidates [] = []
left_behind candidates (step ∷ before) =
    if step.opened then closed_child (branch_at candidates before) step.node ∷ left_behind candidates before
    else left_behind candidates before

-- each step branches on a node that is free there
abbrev pub AreSteps : List ℕ → List Step → Type 0
AreSteps candidates [] = Unit {0}
AreSteps candidates (step ∷ before) =
    Contains (branch_at candidates before).free step.node × AreSteps candidates before

-- a way from the root: the number of nodes, the candidates, and the steps, the last one first
pub record Trail : Type 0 where
  pub size : ℕ
  pub candidates : List ℕ
  pub steps : List Step

-- the way of these steps, the first one first
abbrev pub trail_of : ℕ → List ℕ → List Step → Trail
trail_of size candidates steps = record { size = size; candidates = candidates; steps = reverse steps }

-- the branch that the way leads to
abbrev pub trail_end : Trail → Branching
trail_end trail = branch_at trail.candidates trail.steps

-- the marks are those of the branch that the way leads to
pub record IsKept (trail : Trail) (inside free : List Bool) : Type 0 where
  pub inside_size : length inside ≡ trail.size
  pub free_size : length free ≡ trail.size
  pub ascend : IsStrictlyIncreasing trail.candidates
  pub nodes : All (λ (k : ℕ). k < trail.size) trail.candidates
  pub are_steps : AreSteps trail.candidates trail.steps
  pub inside_marks : marked inside ≡ (trail_end trail).inside
  pub free_marks : marked free ≡ (trail_end trail).free

-- the branch comes from the one where nothing is decided by these steps
pub record IsReached (candidates : List ℕ) (b : Branching) : Type 0 where
  pub ascend : IsStrictlyIncreasing candidates
  pub steps : List Step
  pub are_steps : AreSteps candidates steps
  pub is : b ≡ branch_at candidates steps
