-- Commodities that have no route in a branch, hub by hub.
use Rattle.std.specs.Prelude.{◌≡◌, ℕ, true, All, Contains, ◌⊎◌}
use Rattle.hub_spec.specs.Problem.{Problem, is_allowed}
use Rattle.hub_spec.specs.Trees.{Branching}

-- the route by way of k first and m last is not allowed, or one of the two is closed
abbrev pub IsBlockedBy : Problem → Branching → ℕ × ℕ → ℕ → ℕ → Type 0
IsBlockedBy p b c k m = is_allowed p c k m ≡ true → Contains b.outside k ⊎ Contains b.outside m

-- so it is with k first and each candidate last
abbrev pub IsBlockedFrom : Problem → Branching → ℕ × ℕ → ℕ → Type 0
IsBlockedFrom p b c k = All (IsBlockedBy p b c k) p.candidates
