-- The rule of the search by rounds: each round takes the first pending nodes, all by the state at its start.
use Rattle.std.specs.Prelude.{ℕ, zero, suc, ◌+◌, List, [], ◌∷◌, ◌++◌, Bool, true, false, not, ◌&&◌, if◌then◌else◌, nat_lt, Option, Some, None, is_some}
use Rattle.hub_spec.specs.Problem.{Problem}
use Rattle.hub_spec.specs.Trees.{Branching, root, open_child, closed_child, leaf, TreeLine, branch_on, leaf_of, preorder}
use Rattle.search_spec.specs.States.{denominator, State, Advice, Parts, Grown, whole_on, number_in_pool, is_stopped}
use Rattle.search_spec.specs.Steps.{closes_at, better, separated, may_split, two_more, stopped_leaf, Side, stays_open, stays_closed, child_on, fixings, unless_ended}
use Rattle.search_spec.specs.Places.{Pending, Place, line, open_at, Outcome, ends, asks, splits, Standing, lines_of, has_pending, forest, first_tree}

-- what comes of the value if there is one, else the other
abbrev pub on_some : {A X : Type 0} → Option A → (A → X) → X → X
on_some None f rest = rest
on_some (Some a) f rest = f a

-- ---- a node evaluation

-- how often a node may ask for a set that the master's point picks
abbrev pub most_waits : ℕ
most_waits = 2

-- the node evaluation where just this set is left, by the set's number: a leaf on its cut;
-- with no number the node asks for the set
unfoldable pub turn_alone : Parts → Pending → List ℕ → Option ℕ → Outcome
turn_alone parts x set (Some c) = ends (leaf denominator (whole_on c))
turn_alone parts x set None = asks set (parts.ascending set) x.weights false

-- the node evaluation where more sets than one are left. The node is a leaf where the better weights fathom it.
-- Else it asks for the set that the master's point picks, if that is new and the node has not waited too often.
-- Else it is split.
unfoldable pub turn_advised : Problem → Parts → State → Pending → Outcome
turn_advised p parts s x =
    let b = x.branch in
    let advice = parts.advice s b in
    let best = better p s b x.weights advice.weights in
    let set = parts.pick advice b in
    if closes_at p s b best then ends (leaf denominator best)
    else if not (is_some (number_in_pool s set)) && nat_lt x.waits most_waits
    then asks set (parts.falling advice set) best true
    else splits best (fixings p s b best) advice

-- the node evaluation, by the state as its round begins
unfoldable pub turn : Problem → Parts → State → Pending → Outcome
turn p parts s x =
    on_some (parts.barren x.branch) ends (on_some (parts.blocked x.branch) ends (on_some (parts.only x.branch)
    (λ set. turn_alone parts x set (number_in_pool s set)) (turn_advised p parts s x)))

-- ---- what is taken of an outcome

-- the set is separated, unless it is known by now
unfoldable pub with_set : Parts → List ℕ → List ℕ → State → State
with_set parts set order s = if is_some (number_in_pool s set) then s else separated parts set order s

-- the node is pending with these weights, after one wait more or none
abbrev pub waited : Pending → List (ℕ × ℕ) → Bool → Pending
waited x w more = record { branch = x.branch; weights = w; waits = if more then x.waits + 1 else x.waits }

-- a branch, with these weights, that never waited
abbrev pub fresh : Branching → List (ℕ × ℕ) → Pending
fresh b w = record { branch = b; weights = w; waits = 0 }

-- the stop makes the branch a leaf
abbrev pub stops_at : Problem → Branching → List (ℕ × ℕ) → State → Standing
stops_at p b w s = let g = stopped_leaf p b w s in record { state = g.state; places = lines_of g.tree }

-- the branch on the nearest node: its line, and its children in its place
unfoldable pub halved : Problem → Parts → Option ℕ → Advice → Pending → State → Standing
halved p parts n advice x s =
    if may_split n s then (let k = parts.nearest advice x.branch in record {
      state = two_more s;
      places = line (branch_on k) ∷ open_at (fresh (open_child x.branch k) x.weights) ∷ open_at (fresh (closed_child x.branch k) x.weights) ∷ [];
    })
    else stops_at p x.branch x.weights s

-- once its fixings are made: a line ends the branch, or just one set is left and it stays pending, or it is halved
unfoldable pub after_fixings : Problem → Parts → Option ℕ → Advice → Pending → State → Standing
after_fixings p parts n advice x s =
    on_some (parts.barren x.branch) (λ t. record { state = s; places = lines_of t })
    (if is_some (parts.only x.branch) then record { state = s; places = open_at x ∷ [] } else halved p parts n advice x s)

-- the child of a branch in which the node stays on this side
abbrev pub child_of : Pending → ℕ × Side → Pending
child_of x f = record { branch = child_on f.1 x.branch f.0; weights = x.weights; waits = x.waits }

-- the line on a node, with the places of the child in which it stays beside a leaf with these weights
abbrev pub beside_leaf : Side → ℕ → List (ℕ × ℕ) → List Place → List Place
beside_leaf stays_open k w places = line (branch_on k) ∷ (places ++ line (leaf_of denominator w) ∷ [])
beside_leaf stays_closed k w places = line (branch_on k) ∷ line (leaf_of denominator w) ∷ places

-- the fixings are made one by one, each with a leaf as the other child, until just one set is left
unfoldable pub split_up : Problem → Parts → Option ℕ → Advice → List (ℕ × Side) → Pending → State → Standing
split_up p parts n advice [] x s = after_fixings p parts n advice x s
split_up p parts n advice (f ∷ rest) x s =
    if is_some (parts.only x.branch) then after_fixings p parts n advice x s
    else if may_split n s then (let kept = split_up p parts n advice rest (child_of x f) (two_more s) in
    record { state = kept.state; places = beside_leaf f.1 f.0 x.weights kept.places })
    else stops_at p x.branch x.weights s

-- what comes in the place of a node once its outcome is taken
unfoldable pub taken : Problem → Parts → Option ℕ → Pending → Outcome → State → Standing
taken p parts n x (ends t) s = record { state = s; places = lines_of t }
taken p parts n x (asks set order w more) s = record { state = with_set parts set order s; places = open_at (waited x w more) ∷ [] }
taken p parts n x (splits w fs advice) s = split_up p parts n advice fs (waited x w false) s

-- ---- rounds

-- how many nodes are evaluated in a round
abbrev pub most_turns : ℕ
most_turns = 8

-- the first pending nodes are evaluated, at most so many, each by the state at the start;
-- their outcomes are taken in order, until the search is stopped
unfoldable pub turns_taken : Problem → Parts → Option ℕ → State → ℕ → List Place → State → Standing
turns_taken p parts n start left [] s = record { state = s; places = [] }
turns_taken p parts n start left (line l ∷ rest) s =
    let after = turns_taken p parts n start left rest s in record { state = after.state; places = line l ∷ after.places }
turns_taken p parts n start zero (open_at x ∷ rest) s = record { state = s; places = open_at x ∷ rest }
turns_taken p parts n start (suc left) (open_at x ∷ rest) s =
    if is_stopped s then record { state = s; places = open_at x ∷ rest } else (
    let here = taken p parts n x (turn p parts start x) s in
    let after = turns_taken p parts n start left rest here.state in
    record { state = after.state; places = here.places ++ after.places })

-- a round
unfoldable pub next_round : Problem → Parts → Option ℕ → Standing → Standing
next_round p parts n t = turns_taken p parts n t.state most_turns t.places t.state

-- whether another round follows
abbrev pub goes_on : Standing → Bool
goes_on t = has_pending t.places && not (is_stopped t.state)

-- as many rounds, as long as another follows
unfoldable pub rounds : ℕ → Problem → Parts → Option ℕ → Standing → Standing
rounds zero p parts n t = t
rounds (suc more) p parts n t = if goes_on t then rounds more p parts n (next_round p parts n t) else t

-- ---- the whole search

-- the lines of the tree, with the state after them
pub record Closed : Type 0 where
  pub state : State
  pub lines : List TreeLine

-- each node that is still pending is ended: by its line if it is barren, else as a leaf that the stop makes
unfoldable pub closed_up : Problem → Parts → List Place → State → Closed
closed_up p parts [] s = record { state = s; lines = [] }
closed_up p parts (line l ∷ rest) s = let after = closed_up p parts rest s in record { state = after.state; lines = l ∷ after.lines }
closed_up p parts (open_at x ∷ rest) s =
    let here = unless_ended (parts.barren x.branch) s (stopped_leaf p x.branch x.weights s) in
    let after = closed_up p parts rest here.state in
    record { state = after.state; lines = preorder here.tree ++ after.lines }

-- the tree of these lines
abbrev pub grown_of : Closed → Grown
grown_of c = record { state = c.state; tree = first_tree (forest c.lines) }

-- the root alone is pending, with no weights
abbrev pub at_root : Problem → State → Standing
at_root p s = record { state = s; places = open_at (fresh (root p) []) ∷ [] }
