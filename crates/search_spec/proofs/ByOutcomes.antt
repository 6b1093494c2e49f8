-- A round is what is taken of the list of its outcomes.
use Rattle.std.proofs.Common.{◌≡◌, ℕ, zero, suc, List, [], ◌∷◌, ◌++◌, map, Option, refl, ap}
use Rattle.hub_spec.specs.Problem.{Problem}
use Rattle.hub_spec.specs.Trees.{TreeLine}
use Rattle.hub_spec.proofs.SumLemmas.{by_test}
use Rattle.search_spec.specs.States.{State, Parts, is_stopped}
use Rattle.search_spec.specs.Places.{Place, line, open_at, Standing}
use Rattle.search_spec.specs.Turns.{turn, taken, turns_taken, most_turns, next_round}
use Rattle.search_spec.specs.Outcomes.{first_nodes, outcomes_of, taken_in_order}

with_line : TreeLine → Standing → Standing
with_line l t = record { state = t.state; places = line l ∷ t.places }

after_places : List Place → Standing → Standing
after_places places t = record { state = t.state; places = places ++ t.places }

pub by_outcomes : (p : Problem) (parts : Parts) (n : Option ℕ) (start : State) (left : ℕ) (places : List Place) (s : State)
    → turns_taken p parts n start left places s ≡ taken_in_order p parts n (map (turn p parts start) (first_nodes left places)) places s
unfolding turns_taken taken_in_order with_line after_places
by_outcomes p parts n start left [] s = refl
by_outcomes p parts n start left (line l ∷ rest) s = ap (with_line l) (by_outcomes p parts n start left rest s)
by_outcomes p parts n start zero (open_at x ∷ rest) s = refl
by_outcomes p parts n start (suc left) (open_at x ∷ rest) s =
    by_test (is_stopped s) (λ e. rw e refl)
    (λ e. rw e (ap (after_places (taken p parts n x (turn p parts start x) s).places)
    (by_outcomes p parts n start left rest (taken p parts n x (turn p parts start x) s).state)))

pub round_by_outcomes : (p : Problem) (parts : Parts) (n : Option ℕ) (t : Standing)
    → next_round p parts n t ≡ taken_in_order p parts n (outcomes_of p parts t.state t.places) t.places t.state
unfolding next_round
round_by_outcomes p parts n t = by_outcomes p parts n t.state most_turns t.places t.state
