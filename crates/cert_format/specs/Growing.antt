-- The trees that tree lines are the lines of.
use Rattle.std.specs.Prelude.{ℕ, List, [], ◌∷◌}
use Rattle.hub_spec.specs.Trees.{Tree, branch, leaf, empty, block, count, TreeLine, branch_on, leaf_of, no_hub, no_route, no_count}

-- the first two trees become the children of a branch on this node
abbrev pub planted : ℕ → List Tree → List Tree
planted k (opened ∷ closed ∷ rest) = branch k opened closed ∷ rest
planted k other = []

-- the trees whose lines these are, one after another
abbrev pub grown : List TreeLine → List Tree
grown [] = []
grown (branch_on k ∷ lines) = planted k (grown lines)
grown (leaf_of denom weights ∷ lines) = leaf denom weights ∷ grown lines
grown (no_hub ∷ lines) = empty ∷ grown lines
grown (no_route commodity ∷ lines) = block commodity ∷ grown lines
grown (no_count ∷ lines) = count ∷ grown lines

-- the first of the trees
abbrev pub first_tree : List Tree → Tree
first_tree [] = empty
first_tree (tree ∷ rest) = tree

-- the tree whose lines these are
abbrev pub tree_of : List TreeLine → Tree
tree_of lines = first_tree (grown lines)
