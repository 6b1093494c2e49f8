-- Sets of nodes as the marks of all nodes.
use Rattle.std.specs.Prelude.{ℕ, ◌+◌, Bool, List, [], ◌∷◌, if◌then◌else◌}

-- the marked nodes, where the first mark is that of this node
abbrev pub marked_from : ℕ → List Bool → List ℕ
marked_from k [] = []
marked_from k (mark ∷ marks) = if mark then k ∷ marked_from (k + 1) marks else marked_from (k + 1) marks

-- the marked nodes, ascending
abbrev pub marked : List Bool → List ℕ
marked marks = marked_from 0 marks
