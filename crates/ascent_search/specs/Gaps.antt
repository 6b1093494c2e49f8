-- The gap that a search may leave between its bound and the cost.
use Rattle.std.specs.Prelude.{ℕ, ◌-◌, ◌*◌, ◌/◌, ◌≤◌}

-- the greatest gap, in thousandths of a per cent: the whole cost
abbrev pub most_gap : ℕ
most_gap = 100000

-- the cost is above the bound by at most so many thousandths of a per cent of the cost
abbrev pub IsWithinGap : ℕ → ℕ → ℕ → Type 0
IsWithinGap gap bound cost = most_gap * (cost - bound) ≤ gap * cost

-- the least bound that is within the gap of the cost
abbrev pub goal_of : ℕ → ℕ → ℕ
goal_of gap cost = cost - gap * cost / most_gap
