-- What covers a price of a part: the routes that are allowed, as often as the part says, with the values of their hubs.
-- Each node has a value in a list.
use Rattle.std.specs.Prelude.{◌≡◌, ℕ, ◌+◌, ◌*◌, ◌≤◌, true, List, slice_index, All, ◌⊎◌}
use Rattle.hub_spec.specs.Problem.{Problem, route_cost, is_allowed}

-- the route through one hub, if it is allowed, and the hub's value are no less than the price
abbrev pub IsCoveredAlone : Problem → ℕ → ℕ × ℕ → ℕ → List ℕ → ℕ → Type 0
IsCoveredAlone p part c a values k = is_allowed p c k k ≡ true → a ≤ part * route_cost p c.0 c.1 k k + slice_index values k

-- the hubs are one, or the route through both, if it is allowed, and their values are no less than the price
abbrev pub IsCoveredBy : Problem → ℕ → ℕ × ℕ → ℕ → List ℕ → ℕ → ℕ → Type 0
IsCoveredBy p part c a values k m =
    (k ≡ m) ⊎ (is_allowed p c k m ≡ true → a ≤ part * route_cost p c.0 c.1 k m + (slice_index values k + slice_index values m))

-- the first hub is covered with each candidate as the last
abbrev pub IsCoveredFrom : Problem → ℕ → ℕ × ℕ → ℕ → List ℕ → ℕ → Type 0
IsCoveredFrom p part c a values k = All (IsCoveredBy p part c a values k) p.candidates

-- the hub is covered alone, and as the first with each candidate as the last
abbrev pub IsCoveredFirst : Problem → ℕ → ℕ × ℕ → ℕ → List ℕ → ℕ → Type 0
IsCoveredFirst p part c a values k = IsCoveredAlone p part c a values k × IsCoveredFrom p part c a values k

-- so is each candidate
abbrev pub IsCovered : Problem → ℕ → ℕ × ℕ → ℕ → List ℕ → Type 0
IsCovered p part c a values = All (IsCoveredFirst p part c a values) p.candidates
