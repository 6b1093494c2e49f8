-- A signed sum that is handed on, as the natural number that it is.
use Rattle.std.proofs.Common.{◌≡◌, ℕ, ◌≤◌, ℤ, pos, SFits, to_z, of_z, to_z-of_z, ◌∙◌, rules, arith}
use Rattle.hub_model.specs.HubCuts.{most_sum}
use mir.Syntax.{w128}

pub sum_handed_on : (z : ℤ) (n : ℕ) → z ≡ pos n → n ≤ most_sum → to_z w128 (of_z w128 z) ≡ pos n
sum_handed_on z n e low =
    let fits : SFits w128 z = rw e (small n low) in
    to_z-of_z fits ∙ e
  where
    small : (n : ℕ) → n ≤ most_sum → SFits w128 (pos n)
    small n low = search (rules, arith)
