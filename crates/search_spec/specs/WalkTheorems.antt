-- What is proved of walks; each statement is the contract of the public function of its name.
use Rattle.std.specs.Prelude.{◌≡◌, ℕ, ◌≤◌, List, [], ◌∷◌, ◌++◌, All}
use Rattle.hub_spec.specs.Problem.{Problem}
use Rattle.hub_spec.specs.Cuts.{Cut}
use Rattle.hub_spec.specs.Trees.{Branching, IsBranch, Tree, TreeLine, preorder, IsSound}
use Rattle.search_spec.specs.Walks.{IsSoundLine, filled, Walks}

-- a walk goes on by a line that is sound where it stands
abbrev pub WalkGoesOn : Type 0
WalkGoesOn = (p : Problem) (cuts : List Cut) (target : ℕ) (first : List Branching) (lines : List TreeLine)
    (b : Branching) (pending : List Branching) (l : TreeLine)
    → Walks p cuts target first lines (b ∷ pending) → IsSoundLine p cuts target b l
    → Walks p cuts target first (lines ++ l ∷ []) (filled b l pending)

-- a walk stays one where cuts are added and the cutoff is lowered
abbrev pub WalkStays : Type 0
WalkStays = (p : Problem) (cuts more : List Cut) (target lower : ℕ) (first : List Branching) (lines : List TreeLine)
    (last : List Branching) → lower ≤ target
    → Walks p cuts target first lines last → Walks p (cuts ++ more) lower first lines last

-- the lines from a branch to nothing are those of a sound tree
abbrev pub WalkIsTree : Type 0
WalkIsTree = (p : Problem) (cuts : List Cut) (target : ℕ) (b : Branching) (lines : List TreeLine)
    → Walks p cuts target (b ∷ []) lines []
    → (tree : Tree) × (preorder tree ≡ lines) × IsSound p cuts target b tree

-- what is left of branches of the problem are branches of the problem
abbrev pub PendingAreBranches : Type 0
PendingAreBranches = (p : Problem) (cuts : List Cut) (target : ℕ) (first : List Branching) (lines : List TreeLine)
    (last : List Branching) → All (IsBranch p) first → Walks p cuts target first lines last → All (IsBranch p) last
