-- The commodities for which hubs are infeasible: those for which no route through the hubs is allowed.
use Rattle.std.specs.Prelude.{ℕ, Bool, List, [], ◌∷◌, Option, Some, None, if◌then◌else◌}
use Rattle.std.specs.List.{list_any}
use Rattle.hub_spec.specs.Problem.{Problem, is_allowed, commodities}

-- the commodity has a route through these hubs
abbrev pub serves : Problem → List ℕ → ℕ × ℕ → Bool
serves p hubs c = list_any (λ k. list_any (is_allowed p c k) hubs) hubs

-- the first of these commodities for which the hubs are infeasible
abbrev pub first_lacked : Problem → List ℕ → List (ℕ × ℕ) → Option (ℕ × ℕ)
first_lacked p hubs [] = None
first_lacked p hubs (c ∷ cs) = if serves p hubs c then first_lacked p hubs cs else Some c

-- the first commodity for which they are infeasible
unfoldable pub lacking : Problem → List ℕ → Option (ℕ × ℕ)
lacking p hubs = first_lacked p hubs (commodities p.size)
