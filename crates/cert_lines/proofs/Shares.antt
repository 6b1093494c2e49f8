-- A cut of some part, as often as a weight has the part.
use Rattle.std.proofs.Common.{ℕ, ◌*◌, ◌≤◌, Fits, mul-le-mul_left, mul-le-mul_right, rules, arith}
use mir.Syntax.{w128}
use Rattle.hub_spec.specs.Limits.{most_cost, most_denominator}

-- what is within the limit for each unit of the part counts within the limit for each unit of the weight
pub share_within : (times part weight value : ℕ) → times * part ≤ weight → value ≤ part * most_cost → times * value ≤ weight * most_cost
share_within times part weight value share low = omega (arith, mul-le-mul_left times low, mul-le-mul_right most_cost share)

-- such a sum fits 128 bits
pub sum_fits : (n : ℕ) → n ≤ most_denominator * most_cost → Fits w128 n
sum_fits n low = search (rules, arith)
