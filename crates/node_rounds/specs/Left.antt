-- What is left of the tree in code, and what a search by rounds has with it, in the words of the definition.
use Rattle.std.specs.Prelude.{◌≡◌, ℕ, ◌+◌, ◌-◌, List, [], ◌∷◌, ◌++◌, map, length, drop, min, All}
use Rattle.std.specs.List.{AllZip}
use Rattle.hub_spec.specs.Problem.{Problem}
use Rattle.hub_model.specs.declared.tree_lines.TreeLine.{TreeLine}
use Rattle.hub_model.specs.Lines.{tree_line_of}
use Rattle.cut_pool.specs.Findings.{lines_of}
use Rattle.search_core.specs.declared.tasks.Task.{Task}
use Rattle.search_steps.specs.Progressing.{state_of, IsGoing}
use Rattle.search_steps.specs.declared.progress.Progress.{Progress}
use Rattle.search_spec.specs.Places as places
use Rattle.search_spec.specs.Turns.{most_turns}
use Rattle.node_rounds.specs.declared.outcomes.Pending.{Pending}
use Rattle.node_rounds.specs.declared.left.TreeSlot.{TreeSlot}
use Rattle.node_rounds.specs.declared.left.TreeSlot.TheVariants.{Line, Node}
use Rattle.node_rounds.specs.declared.left.Left.{Left}
use Rattle.node_rounds.specs.declared.outcomes.Outcome.{Outcome}
use Rattle.node_rounds.specs.Outcomes.{pending_of, IsPendingOf, IsTurnOf, IsOutcomeOf}

-- how many of the marks stand for a node
abbrev pub marked : List TreeSlot → ℕ
marked [] = 0
marked (Line l ∷ ms) = marked ms
marked (Node ∷ ms) = marked ms + 1

-- there is a node for each mark that stands for one
abbrev pub AreMatched : List TreeSlot → List Pending → Type 0
AreMatched ms xs = marked ms ≡ length xs

-- the places that marks and nodes stand for, the last first, before further places
abbrev pub placed : List TreeSlot → List Pending → List places.Place → List places.Place
placed [] xs after = after
placed (Line l ∷ ms) xs after = placed ms xs (places.line (tree_line_of l) ∷ after)
placed (Node ∷ ms) [] after = after
placed (Node ∷ ms) (x ∷ xs) after = placed ms xs (places.open_at (pending_of x) ∷ after)

-- the places that are left
abbrev pub left_of : Left → List places.Place
left_of left = placed left.marks.items left.nodes.items []

-- places after finished lines
abbrev pub lines_first : List TreeLine → List places.Place → List places.Place
lines_first lines after = map places.line (lines_of lines) ++ after

-- what the search has, as the definition has it
abbrev pub standing_of : Problem → Progress → Left → places.Standing
standing_of p s left = record { state = state_of p s; places = lines_first s.lines.items (left_of left) }

-- the search goes on, and its nodes are the problem's
pub record IsLeft (t : Task) (s : Progress) (left : Left) : Type 0 where
  pub going : IsGoing t s
  pub nodes : All (IsPendingOf t.instance.now s.pool.entries) left.nodes.items
  pub matched : AreMatched left.marks.items left.nodes.items

-- the nodes whose turn it is: the last, which stand first in the tree
abbrev pub turned_of : List Pending → List Pending
turned_of nodes = drop (length nodes - min (length nodes) most_turns) nodes

-- these outcomes are the turns of the last of these nodes, by what the search has
pub record AreTurns (p : Problem) (s : Progress) (nodes : List Pending) (os : List Outcome) : Type 0 where
  pub others : List Pending
  pub turned : List Pending
  pub all : nodes ≡ others ++ turned
  pub turns : AllZip (IsTurnOf p s.pool.entries s.cost) turned os
  pub sound : AllZip (IsOutcomeOf p s.pool.entries) turned os
