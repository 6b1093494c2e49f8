-- Sums by number, and of the commodities origin by origin.
use Rattle.std.proofs.Common.{◌≡◌, ℕ, zero, suc, ◌+◌, ◌*◌, ◌<◌, ◌≤◌, take, sum_by, refl, ap, ap₂, sym, ◌∙◌, add-one, arith}
use Rattle.std.proofs.lemmas.List.Sums.{sum_by_push}
use Rattle.hub_spec.specs.Problem.{commodities}
use Rattle.hub_spec.proofs.Commodities.{take_commodities_next}
use Rattle.pareto_cuts.specs.Separations.{sum_of}

pub sum_more : (n : ℕ) (f : ℕ → ℕ) → sum_of (n + 1) f ≡ sum_of n f + f n
unfolding sum_of
sum_more n f = ap (λ m. sum_of m f) (add-one n)

pub sum_none : (f : ℕ → ℕ) → sum_of 0 f ≡ 0
unfolding sum_of
sum_none f = refl

pub sum_same : (n : ℕ) (f g : ℕ → ℕ) → ((j : ℕ) → j < n → f j ≡ g j) → sum_of n f ≡ sum_of n g
unfolding sum_of
sum_same zero f g same = refl
sum_same (suc n) f g same = ap₂ (λ a b. a + b) (sum_same n f g (λ j below. same j (omega (arith, below)))) (same n (omega arith))

pub sum_zero : (n : ℕ) (f : ℕ → ℕ) → ((j : ℕ) → j < n → f j ≡ 0) → sum_of n f ≡ 0
unfolding sum_of
sum_zero zero f none = refl
sum_zero (suc n) f none = omega (arith, sum_zero n f (λ j below. none j (omega (arith, below))), none n (omega arith))

-- each number within a limit
pub sum_limit : (n most : ℕ) (f : ℕ → ℕ) → ((j : ℕ) → j < n → f j ≤ most) → sum_of n f ≤ n * most
unfolding sum_of
sum_limit zero most f low = omega arith
sum_limit (suc n) most f low = omega (arith, sum_limit n most f (λ j below. low j (omega (arith, below))), low n (omega arith))

-- ---- the commodities of one origin

-- the sum over the first j commodities of the origin i, after those of the origins before
pub origin_sum : (n i j : ℕ) (f : ℕ × ℕ → ℕ) → i < n → j ≤ n
    → sum_by f (take (i * n + j) (commodities n)) ≡ sum_by f (take (i * n) (commodities n)) + sum_of j (λ m. f (i, m))
unfolding sum_of
origin_sum n i zero f origin within =
    let e : i * n + zero ≡ i * n = omega arith in
    omega (arith, ap (λ k. sum_by f (take k (commodities n))) e)
origin_sum n i (suc j) f origin within =
    let before = origin_sum n i j f origin (omega (arith, within)) in
    let next = take_commodities_next n i j origin (omega (arith, within)) in
    let here : sum_by f (take (i * n + suc j) (commodities n)) ≡ sum_by f (take (i * n + j) (commodities n)) + f (i, j) =
    ap (λ k. sum_by f (take (i * n + k) (commodities n))) (sym (add-one j)) ∙ ap (sum_by f) next
    ∙ sum_by_push f (take (i * n + j) (commodities n)) (i, j) in
    omega (arith, before, here)
