-- The branches of a tree that are still to be filled.
use Rattle.std.specs.Prelude.{ℕ, Bool, true, false, List, [], ◌∷◌}
use Rattle.hub_spec.specs.Trees.{Branching}
use Rattle.cert_lines.specs.Trails.{Trail, undecided, branch_at, left_behind}

-- the number of nodes, the candidates, and the branches that are still to be filled, the next one first
pub record Pending : Type 0 where
  pub size : ℕ
  pub candidates : List ℕ
  pub pending : List Branching

-- the next branch; where there is none, that of no node
abbrev pub next : List Branching → Branching
next [] = undecided []
next (b ∷ others) = b

-- those behind the next one
abbrev pub behind_next : List Branching → List Branching
behind_next [] = []
behind_next (b ∷ others) = others

-- what is to be filled on this way, unless all is filled
abbrev pub pending_on : Bool → Trail → List Branching
pending_on true trail = []
pending_on false trail =
    branch_at trail.candidates trail.steps ∷ left_behind trail.candidates trail.steps

-- a path on this way
abbrev pub path_of : Bool → Trail → Pending
path_of is_filled trail =
    record { size = trail.size; candidates = trail.candidates; pending = pending_on is_filled trail }
