-- Costs that are handed on as signed numbers.
use Rattle.std.proofs.Common.{◌≡◌, ℕ, ◌≤◌, ℤ, pos, to_z, of_z, arith}
use Rattle.std.specs.Int.{w128}
use Rattle.hub_spec.specs.Limits.{most_cost}
use Rattle.hub_model.proofs.ListedValues.{as_natural}

pub handed_on : (z : ℤ) (n : ℕ) → z ≡ pos n → n ≤ most_cost → to_z w128 (of_z w128 z) ≡ pos n
handed_on z n e low = as_natural z n e (omega (arith, low))
