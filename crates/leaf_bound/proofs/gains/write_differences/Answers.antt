use Rattle.std.proofs.Common.{◌≡◌, ℕ, ◌*◌, ◌≤◌, ℤ, pos, ◌-ℤ◌, List, get_or, FitsSigned, to_z, of_z, arith, rules}
use Rattle.std.specs.Int.{w128}
use Rattle.std.proofs.lemmas.Int.{to_z-of_z}
use Rattle.std.proofs.lemmas.List.{get_or-set_same, get_or-set_other}
use Rattle.std.proofs.Math.ListN.{set}
use borrow.Author.Count.{below_more}
use Rattle.hub_spec.specs.Limits.{most_cost}
use Rattle.leaf_bound.specs.Weighing.{most_gain}
use Rattle.leaf_bound.proofs.gains.write_differences.Goals as goal

-- the gain at the place, where its numbers are within their limits
abbrev IsAt : List ℕ → List ℕ → ℕ → ℕ → ℤ → Type 0
IsAt fixed sums denom i z =
    get_or fixed i 0 ≤ most_cost → get_or sums i 0 ≤ most_gain → z ≡ pos (denom * get_or fixed i 0) -ℤ pos (get_or sums i 0)

pub loop-k-preserved : goal.loop-k-preserved
loop-k-preserved c =
    let z = c.gain_by.result in
    let fits : FitsSigned w128 z = search rules in
    let passed = to_z w128 (of_z w128 z) in
    let gains = c.loop-k.gains in
    let k = c.loop-k.k in
    let at : ℕ → ℤ → Type 0 = IsAt c.args.fixed.now c.args.sums.now c.args.denom in
    below_more (λ i. at i (get_or (set gains k passed) i (pos 0))) k
    (λ i low. rw (get_or-set_other gains k i passed (pos 0) (λ same. absurd (omega (arith, same, low)))) (c.loop-k.invariant i low))
    (rw (get_or-set_same gains k passed (pos 0) (omega (arith, c.loop-k-test.true, c.loop-k.auto.gains)), to_z-of_z w128 z fits) c.gain_by.ensures)
