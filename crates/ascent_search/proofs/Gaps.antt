-- What is within a gap.
use Rattle.std.proofs.Common.{◌≡◌, ℕ, ◌+◌, ◌-◌, ◌*◌, ◌≤◌, Option, None, Some, mul-add, mul-le-mul_right, div-mul-le_self, ⊎_elim, arith}
use Rattle.std.proofs.lemmas.Bool.{cases_lt}
use Rattle.search_spec.specs.States.{lesser}
use Rattle.ascent_search.specs.Gaps.{most_gap, IsWithinGap, goal_of}

-- the cost itself is
pub all_within : (gap cost bound : ℕ) → cost ≤ bound → IsWithinGap gap bound cost
all_within gap cost bound less = omega (arith, less)

-- and a bound that is no less than the cutoff is
pub goal_within : (gap cost bound : ℕ) → goal_of gap cost ≤ bound → IsWithinGap gap bound cost
goal_within gap cost bound least = let down = div-mul-le_self (gap * cost) 100000 in omega (arith, least, down)

-- with no gap it is the cost alone
pub no_gap : (bound cost : ℕ) → IsWithinGap 0 bound cost → bound ≤ cost → bound ≡ cost
no_gap bound cost near within = omega (arith, near, within)

-- the cutoff is at most the cost
pub goal_least : (gap cost : ℕ) → goal_of gap cost ≤ cost
goal_least gap cost = omega arith

-- what is within the gap of a cost is within that of a lower one
within_lower : (gap cost lower bound : ℕ) → gap ≤ most_gap → lower ≤ cost → bound ≤ lower → IsWithinGap gap bound cost → IsWithinGap gap bound lower
within_lower gap cost lower bound most less below near = by_parts (cost - lower) (omega (arith, less))
  where
    by_parts : (above : ℕ) → cost ≡ lower + above → IsWithinGap gap bound lower
    by_parts above same =
        let parts = mul-add gap lower above in
        let high = mul-le-mul_right above most in
        let all : most_gap * (lower + above - bound) ≤ gap * (lower + above) = rw (← same) near in
        omega (arith, parts, high, all, below)

-- the cutoff at which leaves fathom stays within the gap, where the incumbent's cost falls
pub fallen_within : (gap cost lower : ℕ) (left : Option ℕ) → gap ≤ most_gap → lower ≤ cost → IsWithinGap gap (lesser cost left) cost
    → IsWithinGap gap (lesser lower left) lower
fallen_within gap cost lower None most less near = all_within gap lower lower (omega arith)
fallen_within gap cost lower (Some m) most less near =
    ⊎_elim
    (λ below. let P : ℕ → Type 0 = λ n. IsWithinGap gap n lower in
    let near_m : IsWithinGap gap m cost = omega (arith, near, below, less) in
    let now : IsWithinGap gap m lower = within_lower gap cost lower m most less (omega (arith, below)) near_m in
    omega (arith, now))
    (λ above. all_within gap lower (lesser lower (Some m)) (omega (arith, above))) (cases_lt m lower)

-- and where one more leaf's bound is no less than the cutoff
pub left_within : (gap cost bound : ℕ) (left : Option ℕ) → goal_of gap cost ≤ bound → IsWithinGap gap (lesser cost left) cost
    → IsWithinGap gap (lesser cost (Some (lesser bound left))) cost
left_within gap cost bound None least near = let one = goal_within gap cost bound least in omega (arith, one)
left_within gap cost bound (Some m) least near = let one = goal_within gap cost bound least in omega (arith, one, near)
