-- How long a search by rounds lasts: the most node evaluations that are left to pending nodes, and the whole search.
use Rattle.std.specs.Prelude.{ℕ, ◌+◌, ◌-◌, ◌*◌, ◌^◌, min, List, [], ◌∷◌, length, Option, is_some, if◌then◌else◌}
use Rattle.hub_spec.specs.Problem.{Problem}
use Rattle.search_spec.specs.States.{State, Parts, Grown, number_in_pool}
use Rattle.search_spec.specs.Choices.{Advising, rule_parts, begun_for}
use Rattle.search_spec.specs.Places.{Pending, Place, line, open_at, Standing}
use Rattle.search_spec.specs.Turns.{on_some, most_waits, rounds, closed_up, grown_of, at_root}

-- the most evaluations of a node that never waited and has so many free nodes, and of all nodes that may come of it:
-- three of its own, and those of two children with one free node less
abbrev pub turns_of : ℕ → ℕ
turns_of free = 5 * 2 ^ free - 3

-- the most evaluations that are left to a node and to what may come of it
unfoldable pub node_turns : Parts → State → Pending → ℕ
node_turns parts s x =
    on_some (parts.only x.branch) (λ set. if is_some (number_in_pool s set) then 1 else 2)
    (turns_of (length x.branch.free) - min x.waits most_waits)

-- and to all pending nodes
unfoldable pub turns_left : Parts → State → List Place → ℕ
turns_left parts s [] = 0
turns_left parts s (line l ∷ rest) = turns_left parts s rest
turns_left parts s (open_at x ∷ rest) = node_turns parts s x + turns_left parts s rest

-- the rounds from the root on
unfoldable pub stood : Problem → Parts → Option ℕ → State → Standing
stood p parts n s = rounds (turns_of (length p.candidates)) p parts n (at_root p s)

-- the search by rounds from a state
unfoldable pub searched_by_rounds : Problem → Parts → Option ℕ → State → Grown
searched_by_rounds p parts n s =
    let last = stood p parts n s in
    grown_of (closed_up p parts last.places last.state)

-- the rule by rounds, which begins as the other rule does
unfoldable pub rule_by_rounds : Problem → Advising → Option ℕ → Grown
rule_by_rounds p advising n = searched_by_rounds p (rule_parts p advising) n (begun_for p (rule_parts p advising) p.wanted)
