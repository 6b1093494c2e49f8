-- Amounts that are passed on as numbers with a sign.
use Rattle.std.proofs.Common.{◌≡◌, ℕ, ℤ, pos, to_z, of_z, SFits, ap, ◌∙◌, arith}
use Rattle.std.specs.Int.{w128}
use Rattle.std.proofs.lemmas.Int.{ints, to_z-of_z}
use Rattle.hub_model.specs.Amounts.{natural, IsNatural}

pub same_amount : (z : ℤ) → SFits w128 z → natural (to_z w128 (of_z w128 z)) ≡ natural z
same_amount z fits = ap natural (to_z-of_z w128 z fits)

pub passed_on : (z : ℤ) {n : ℕ} → SFits w128 z → z ≡ pos n → to_z w128 (of_z w128 z) ≡ pos n
passed_on z fits e = to_z-of_z w128 z fits ∙ e

pub natural_pos : (n : ℕ) → IsNatural (pos n)
natural_pos n = omega (arith, ints)
