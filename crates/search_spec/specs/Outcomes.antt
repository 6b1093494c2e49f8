-- A round by the list of its outcomes: all node evaluations first, and then what is taken of them in order.
use Rattle.std.specs.Prelude.{ℕ, zero, suc, List, [], ◌∷◌, ◌++◌, map, Option, if◌then◌else◌}
use Rattle.hub_spec.specs.Problem.{Problem}
use Rattle.search_spec.specs.States.{State, Parts, is_stopped}
use Rattle.search_spec.specs.Places.{Pending, Place, line, open_at, Outcome, Standing}
use Rattle.search_spec.specs.Turns.{turn, taken, most_turns}

-- the first pending nodes, at most so many
abbrev pub first_nodes : ℕ → List Place → List Pending
first_nodes left [] = []
first_nodes left (line l ∷ rest) = first_nodes left rest
first_nodes zero (open_at x ∷ rest) = []
first_nodes (suc left) (open_at x ∷ rest) = x ∷ first_nodes left rest

-- the outcomes of a round
abbrev pub outcomes_of : Problem → Parts → State → List Place → List Outcome
outcomes_of p parts start places = map (turn p parts start) (first_nodes most_turns places)

-- what is taken of these outcomes, in order, until the search is stopped
unfoldable pub taken_in_order : Problem → Parts → Option ℕ → List Outcome → List Place → State → Standing
taken_in_order p parts n os [] s = record { state = s; places = [] }
taken_in_order p parts n os (line l ∷ rest) s =
    let after = taken_in_order p parts n os rest s in record { state = after.state; places = line l ∷ after.places }
taken_in_order p parts n [] (open_at x ∷ rest) s = record { state = s; places = open_at x ∷ rest }
taken_in_order p parts n (o ∷ os) (open_at x ∷ rest) s =
    if is_stopped s then record { state = s; places = open_at x ∷ rest } else (
    let here = taken p parts n x o s in
    let after = taken_in_order p parts n os rest here.state in
    record { state = after.state; places = here.places ++ after.places })
