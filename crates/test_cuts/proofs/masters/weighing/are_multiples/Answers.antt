use Rattle.std.proofs.Common.{◌≡◌, ℕ, zero, suc, ◌*◌, ◌/◌, ◌<◌, ◌≤◌, List, [], ◌∷◌, length, get_or, arith}
use Rattle.leaf_bound.specs.Bounds.{AreMultiples}
use Rattle.test_cuts.proofs.masters.weighing.are_multiples.Goals as goal

-- multiples, each at its place
multiples_by : (ws es : List ℕ) → length ws ≤ length es → ((i : ℕ) → i < length ws → get_or ws i 0 / get_or es i 0 * get_or es i 0 ≡ get_or ws i 0)
    → AreMultiples ws es
multiples_by [] es few each = tt
multiples_by (w ∷ ws) [] few each = absurd (omega (arith, few))
multiples_by (w ∷ ws) (e ∷ es) few each =
    (each zero (omega arith), multiples_by ws es (omega (arith, few)) (λ i low. each (suc i) (omega (arith, low))))

pub returns : goal.returns
returns c = λ _.
    multiples_by c.args.weights.now c.args.parts.now (omega arith) (λ i low. c.loop-c.invariant i (omega (arith, low, c.loop-c-test.false)))
