-- The end of a search by rounds: what is left of the tree is ended.
use Rattle.std.proofs.Common.{◌≡◌, List, [], ◌∷◌, ◌++◌, map, length, ◌≤◌, All, Vec, Global, refl, ap, ap₂, sym, ◌∙◌, append_assoc, append-nil}
use Rattle.std.proofs.lemmas.List.{map-append}
use Rattle.std.proofs.lemmas.List.Elements.{All-weaker}
use Rattle.hub_spec.specs.Limits.{most_tree_lines}
use Rattle.hub_spec.specs.Problem.{Problem}
use Rattle.hub_spec.specs.Trees.{TreeLine, preorder}
use Rattle.hub_model.specs.declared.tree_lines.TreeLine as model
use Rattle.hub_model.specs.Lines.{tree_line_of}
use Rattle.cut_pool.specs.Findings.{lines_of}
use Rattle.search_spec.specs.States.{State, Parts, Grown}
use Rattle.search_spec.specs.Steps.{unless_ended, stopped_leaf}
use Rattle.search_steps.specs.Advising.{parts_of}
use Rattle.search_core.specs.declared.tasks.Task.{Task}
use Rattle.search_steps.specs.declared.progress.Progress.{Progress}
use Rattle.search_steps.specs.Progressing.{state_of, IsGoing, IsAt}
use Rattle.search_spec.specs.Places as places
use Rattle.search_spec.specs.Places.{line, open_at}
use Rattle.search_spec.specs.Turns.{Closed, closed_up}
use Rattle.node_rounds.specs.declared.outcomes.Pending.{Pending}
use Rattle.node_rounds.specs.declared.left.TreeSlot.{TreeSlot}
use Rattle.node_rounds.specs.declared.left.TreeSlot.TheVariants.{Line, Node}
use Rattle.node_rounds.specs.declared.left.Left.{Left}
use Rattle.node_rounds.specs.Outcomes.{pending_of, IsPendingOf}
use Rattle.node_rounds.specs.Left.{AreMatched, placed, left_of, lines_first, IsLeft}
use Rattle.node_rounds.proofs.Added.{pending_kept}
use Rattle.node_rounds.proofs.Lefts.{line_unmatched, node_unmatched, left_line, left_node, left_none, others_are}

-- ---- by the definition

-- these lines, and then those of an end
abbrev lines_before : List TreeLine → Closed → Closed
lines_before ls c = record { state = c.state; lines = ls ++ c.lines }

-- finished lines stay in front
closed_lines : (p : Problem) (parts : Parts) (ls : List TreeLine) (after : List places.Place) (s : State)
    → closed_up p parts (map line ls ++ after) s ≡ lines_before ls (closed_up p parts after s)
unfolding closed_up
closed_lines p parts [] after s = refl
closed_lines p parts (l ∷ ls) after s = ap (lines_before (l ∷ [])) (closed_lines p parts ls after s)

closed_line : (p : Problem) (parts : Parts) (l : TreeLine) (rest : List places.Place) (s : State)
    → closed_up p parts (line l ∷ rest) s ≡ lines_before (l ∷ []) (closed_up p parts rest s)
unfolding closed_up
closed_line p parts l rest s = refl

-- what ends a node
abbrev pub ended_node : Problem → places.Pending → State → Grown
ended_node p x s = unless_ended ((parts_of p).barren x.branch) s (stopped_leaf p x.branch x.weights s)

closed_node : (p : Problem) (x : places.Pending) (rest : List places.Place) (s : State)
    → closed_up p (parts_of p) (open_at x ∷ rest) s ≡ lines_before (preorder (ended_node p x s).tree) (closed_up p (parts_of p) rest (ended_node p x s).state)
unfolding closed_up
closed_node p x rest s = refl

closed_none : (p : Problem) (parts : Parts) (s : State) → closed_up p parts [] s ≡ record { state = s; lines = [] }
unfolding closed_up
closed_none p parts s = refl

lines_twice : (xs ys : List TreeLine) (c : Closed) → lines_before (xs ++ ys) c ≡ lines_before xs (lines_before ys c)
lines_twice xs ys c = ap (λ (ls : List TreeLine). (let x : Closed = record { state = c.state; lines = ls } in x)) (append_assoc xs ys c.lines)

-- ---- by the code

-- the lines so far, with the end of what is left, are the whole end
pub record IsClosing (t : Task) (s₀ : Progress) (left : Left) (s : Progress) (ms : List TreeSlot) (xs : List Pending) : Type 0 where
  pub whole : lines_before (lines_of s.lines.items) (closed_up t.instance.now (parts_of t.instance.now) (placed ms xs []) (state_of t.instance.now s))
      ≡ closed_up t.instance.now (parts_of t.instance.now) (lines_first s₀.lines.items (left_of left)) (state_of t.instance.now s₀)
  pub going : IsGoing t s
  pub nodes : All (IsPendingOf t.instance.now s.pool.entries) xs
  pub matched : AreMatched ms xs

pub closing_first : (t : Task) (s : Progress) (left : Left) → IsLeft t s left → IsClosing t s left s left.marks.items left.nodes.items
closing_first t s left is = record {
  whole = sym (closed_lines t.instance.now (parts_of t.instance.now) (lines_of s.lines.items) (left_of left) (state_of t.instance.now s));
  going = is.going;
  nodes = is.nodes;
  matched = is.matched;
}

-- one more of the code's lines
lines_push : (lines more : List model.TreeLine) (l : model.TreeLine) → more ≡ lines ++ l ∷ [] → lines_of more ≡ lines_of lines ++ tree_line_of l ∷ []
lines_push lines more l is = ap lines_of is ∙ map-append tree_line_of lines (l ∷ [])

-- the search goes on with one line more
with_lines : (t : Task) (s : Progress) (new : Vec model.TreeLine Global) → IsGoing t s → length new.items ≤ most_tree_lines → IsGoing t (record s { lines = new })
with_lines t s new going few = record {
  problem = going.problem;
  pool = going.pool;
  few_cuts = going.few_cuts;
  few_lines = few;
  hubs = going.hubs;
  cost = going.cost;
  made = going.made;
}

-- the next of what is left is a line
pub closing_line : (t : Task) (s₀ : Progress) (left : Left) (s : Progress) (new : Vec model.TreeLine Global) (ms more : List TreeSlot) (xs : List Pending) (l : model.TreeLine)
    → IsClosing t s₀ left s more xs → more ≡ ms ++ Line l ∷ [] → new.items ≡ s.lines.items ++ l ∷ [] → length new.items ≤ most_tree_lines
    → IsClosing t s₀ left (record s { lines = new }) ms xs
closing_line t s₀ left s new ms more xs l is marks lines few =
    let p = t.instance.now in
    let parts = parts_of p in
    let matched = line_unmatched ms more xs l marks is.matched in
    let end = closed_up p parts (placed ms xs []) (state_of p s) in
    record {
      whole = ap (λ (ls : List TreeLine). lines_before ls end) (lines_push s.lines.items new.items l lines)
          ∙ lines_twice (lines_of s.lines.items) (tree_line_of l ∷ []) end
          ∙ sym (ap (lines_before (lines_of s.lines.items)) (closed_line p parts (tree_line_of l) (placed ms xs []) (state_of p s)))
          ∙ sym (ap (λ (ps : List places.Place). lines_before (lines_of s.lines.items) (closed_up p parts ps (state_of p s))) (left_line ms more xs l marks matched))
          ∙ is.whole;
      going = with_lines t s new is.going few;
      nodes = is.nodes;
      matched = matched;
    }

-- and where it is a node
pub closing_node : (t : Task) (s₀ : Progress) (left : Left) (s s' : Progress) (new : Vec model.TreeLine Global) (ms more : List TreeSlot) (xs ys : List Pending) (x : Pending)
    (l : model.TreeLine) → IsClosing t s₀ left s more ys → more ≡ ms ++ Node ∷ [] → ys ≡ xs ++ x ∷ []
    → IsAt t s s' (ended_node t.instance.now (pending_of x) (state_of t.instance.now s)).state
    → preorder (ended_node t.instance.now (pending_of x) (state_of t.instance.now s)).tree ≡ tree_line_of l ∷ []
    → new.items ≡ s'.lines.items ++ l ∷ [] → length new.items ≤ most_tree_lines → IsClosing t s₀ left (record s' { lines = new }) ms xs
closing_node t s₀ left s s' new ms more xs ys x l is marks nodes at one lines few =
    let p = t.instance.now in
    let parts = parts_of p in
    let matched = node_unmatched ms more xs ys x marks nodes is.matched in
    let here = ended_node p (pending_of x) (state_of p s) in
    let end = closed_up p parts (placed ms xs []) here.state in
    record {
      whole = ap₂ (λ (ls : List TreeLine) (z : State). lines_before ls (closed_up p parts (placed ms xs []) z))
          (lines_push s'.lines.items new.items l lines ∙ ap (λ (ls : List TreeLine). ls ++ tree_line_of l ∷ []) at.lines) at.state
          ∙ lines_twice (lines_of s.lines.items) (tree_line_of l ∷ []) end
          ∙ sym (ap (λ (ls : List TreeLine). lines_before (lines_of s.lines.items) (lines_before ls end)) one)
          ∙ sym (ap (lines_before (lines_of s.lines.items)) (closed_node p (pending_of x) (placed ms xs []) (state_of p s)))
          ∙ sym (ap (λ (ps : List places.Place). lines_before (lines_of s.lines.items) (closed_up p parts ps (state_of p s)))
          (left_node ms more xs ys x marks nodes matched))
          ∙ is.whole;
      going = with_lines t s' new at.going few;
      nodes = All-weaker (IsPendingOf p s.pool.entries) (IsPendingOf p s'.pool.entries) (λ y h. pending_kept p s.pool.entries s'.pool.entries y at.kept h) xs
          (others_are (IsPendingOf p s.pool.entries) xs ys x nodes is.nodes);
      matched = matched;
    }

-- nothing is left
pub closing_over : (t : Task) (s₀ : Progress) (left : Left) (s : Progress) (ms : List TreeSlot) (xs : List Pending) → IsClosing t s₀ left s ms xs → ms ≡ []
    → record { state = state_of t.instance.now s; lines = lines_of s.lines.items }
    ≡ closed_up t.instance.now (parts_of t.instance.now) (lines_first s₀.lines.items (left_of left)) (state_of t.instance.now s₀)
closing_over t s₀ left s ms xs is none =
    let p = t.instance.now in
    ap (λ (ls : List TreeLine). (let x : Closed = record { state = state_of p s; lines = ls } in x)) (sym (append-nil (lines_of s.lines.items)))
    ∙ sym (ap (lines_before (lines_of s.lines.items)) (closed_none p (parts_of p) (state_of p s)))
    ∙ sym (ap (λ (ps : List places.Place). lines_before (lines_of s.lines.items) (closed_up p (parts_of p) ps (state_of p s))) (left_none ms xs none))
    ∙ is.whole
