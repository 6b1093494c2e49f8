-- What a search by rounds has of its tree: a list in preorder of finished lines and of nodes that are pending.
use Rattle.std.specs.Prelude.{ℕ, List, [], ◌∷◌, map, Bool, true, false}
use Rattle.hub_spec.specs.Trees.{Branching, Tree, branch, leaf, empty, block, count, TreeLine, branch_on, leaf_of, no_hub, no_route, no_count, preorder}
use Rattle.search_spec.specs.States.{State, Advice}
use Rattle.search_spec.specs.Steps.{Side}

-- a node that is still to be handled: its branch, its weights, and how often it waited for a set by the master's point
pub record Pending : Type 0 where
  pub branch : Branching
  pub weights : List (ℕ × ℕ)
  pub waits : ℕ

-- a place of the tree: a finished line, or a pending node, where a tree is still to come
pub data Place : Type 0 where
  line : TreeLine → Place
  open_at : Pending → Place

-- the outcome of a node evaluation
pub data Outcome : Type 0 where
  -- a tree of one line ends it
  ends : (end : Tree) → Outcome
  -- it asks for the Benders cut from a set over an order, with its weights, and this counts as a wait or not
  asks : (set : List ℕ) → (order : List ℕ) → (weights : List (ℕ × ℕ)) → (counts : Bool) → Outcome
  -- it is split, with its weights, its fixings, and the weights and point of the master
  splits : (weights : List (ℕ × ℕ)) → (fixed : List (ℕ × Side)) → (advice : Advice) → Outcome

-- what a search by rounds has: its state, and the places of its tree in preorder
pub record Standing : Type 0 where
  pub state : State
  pub places : List Place

-- the places of a finished tree
abbrev pub lines_of : Tree → List Place
lines_of t = map line (preorder t)

-- whether a node is pending
abbrev pub has_pending : List Place → Bool
has_pending [] = false
has_pending (line l ∷ rest) = has_pending rest
has_pending (open_at x ∷ rest) = true

-- ---- lines as trees

-- two trees of a list are the children of a branch on this node
abbrev pub joined : ℕ → List Tree → List Tree
joined k [] = []
joined k (t ∷ []) = []
joined k (t ∷ u ∷ rest) = branch k t u ∷ rest

-- the trees that lines in preorder are the lines of
abbrev pub forest : List TreeLine → List Tree
forest [] = []
forest (branch_on k ∷ rest) = joined k (forest rest)
forest (leaf_of denom weights ∷ rest) = leaf denom weights ∷ forest rest
forest (no_hub ∷ rest) = empty ∷ forest rest
forest (no_route commodity ∷ rest) = block commodity ∷ forest rest
forest (no_count ∷ rest) = count ∷ forest rest

-- the first of the trees
abbrev pub first_tree : List Tree → Tree
first_tree [] = empty
first_tree (t ∷ rest) = t
