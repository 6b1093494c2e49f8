-- Weighted sums, number by number, and what they are at most.
use Rattle.std.proofs.Common.{◌≡◌, ℕ, zero, suc, ◌+◌, ◌*◌, ◌/◌, ◌<◌, ◌≤◌, List, [], ◌∷◌, length, get_or, take, sum, refl, sym, ap, ◌∙◌, add-one, arith}
use Rattle.std.specs.List.{AllZip}
use Rattle.std.proofs.Math.Nat.{mul-le-mul_right}
use Rattle.std.proofs.lemmas.List.{take_all}
use Rattle.std.proofs.lemmas.List.Sums.{sum_by_more, sum_by_more_le, sum_by-take-le}
use Rattle.hub_spec.specs.Limits.{most_cost, most_denominator}
use Rattle.hub_spec.proofs.Mixes.{shared_limit}
use Rattle.leaf_bound.specs.Bounds.{weighted_by, shares_of}
use Rattle.leaf_bound.specs.Numbers.{IsSumOf}
use Rattle.leaf_bound.specs.Weighing.{most_gain, share_at, AreWeighed, IsWeighedTo}

weighted_suc : (ws xs : List ℕ) (i : ℕ) → i < length ws → length ws ≤ length xs
    → weighted_by (take (suc i) ws) xs ≡ weighted_by (take i ws) xs + get_or ws i 0 * get_or xs i 0
weighted_suc [] xs i low long = absurd (omega arith)
weighted_suc (w ∷ ws) [] i low long = absurd (omega arith)
weighted_suc (w ∷ ws) (x ∷ xs) zero low long = omega arith
weighted_suc (w ∷ ws) (x ∷ xs) (suc i) low long = omega (arith, weighted_suc ws xs i (omega arith) (omega arith))

weighted_more : (ws xs : List ℕ) (i : ℕ) → i < length ws → length ws ≤ length xs
    → weighted_by (take (i + 1) ws) xs ≡ weighted_by (take i ws) xs + get_or ws i 0 * get_or xs i 0
weighted_more ws xs i low long = rw (add-one i) (weighted_suc ws xs i low long)

-- ---- shares

length-shares_of : (ws es : List ℕ) → length ws ≤ length es → length (shares_of ws es) ≡ length ws
length-shares_of [] es few = refl
length-shares_of (w ∷ ws) [] few = absurd (omega (arith, few))
length-shares_of (w ∷ ws) (e ∷ es) few = omega (arith, length-shares_of ws es (omega (arith, few)))

shares_at : (ws es : List ℕ) (i : ℕ) → i < length ws → length ws ≤ length es → get_or (shares_of ws es) i 0 ≡ get_or ws i 0 / get_or es i 0
shares_at [] es i low few = absurd (omega arith)
shares_at (w ∷ ws) [] i low few = absurd (omega (arith, few))
shares_at (w ∷ ws) (e ∷ es) zero low few = refl
shares_at (w ∷ ws) (e ∷ es) (suc i) low few = shares_at ws es i (omega (arith, low)) (omega (arith, few))

sum_at : (es xs : List ℕ) (i : ℕ) → i < length xs → AllZip IsSumOf es xs → IsSumOf (get_or es i 0) (get_or xs i 0)
sum_at [] [] i low are = absurd (omega arith)
sum_at [] (x ∷ xs) i low are = absurd are
sum_at (e ∷ es) [] i low are = absurd are
sum_at (e ∷ es) (x ∷ xs) zero low are = are.0
sum_at (e ∷ es) (x ∷ xs) (suc i) low are = sum_at es xs i (omega (arith, low)) are.1

weight_limit : (weights parts numbers : List ℕ) (i : ℕ) → i < length weights → AreWeighed weights parts numbers
    → sum (take i weights) + get_or weights i 0 ≤ most_denominator
weight_limit weights parts numbers i low are =
    let within = sum_by_more_le (λ (n : ℕ). n) weights i 0 low in
    omega (arith, within, are.weights_limit)

-- a number of the list as often as its weight has its part
shared : (weights parts numbers : List ℕ) (i w : ℕ) → i < length weights → AreWeighed weights parts numbers
    → w ≡ share_at weights parts i → w * get_or numbers i 0 ≤ get_or weights i 0 * most_cost
shared weights parts numbers i w low are weight =
    let is = sum_at parts numbers i (omega (arith, are.few, low)) are.are_numbers in
    rw weight (shared_limit (get_or weights i 0) (get_or parts i 0) (get_or numbers i 0) is)

-- one more product
pub product_limit : (weights parts numbers : List ℕ) (i w : ℕ) → i < length weights → AreWeighed weights parts numbers
    → w ≡ share_at weights parts i → w * get_or numbers i 0 ≤ most_gain
product_limit weights parts numbers i w low are weight =
    let above : get_or weights i 0 ≤ most_denominator = omega (arith, weight_limit weights parts numbers i low are) in
    omega (arith, shared weights parts numbers i w low are weight, mul-le-mul_right most_cost above)

pub weighed_next : (weights parts numbers : List ℕ) (i so_far w : ℕ) → i < length weights → AreWeighed weights parts numbers
    → w ≡ share_at weights parts i → IsWeighedTo weights parts numbers i so_far
    → IsWeighedTo weights parts numbers (i + 1) (so_far + w * get_or numbers i 0)
weighed_next weights parts numbers i so_far w low are weight is =
    let shares = shares_of weights parts in
    let wide = length-shares_of weights parts are.few_parts in
    let more = weighted_more shares numbers i (omega (arith, wide)) (omega (arith, wide, are.few)) in
    let same : w * get_or numbers i 0 ≡ get_or shares i 0 * get_or numbers i 0 =
    ap (λ (x : ℕ). x * get_or numbers i 0) (weight ∙ sym (shares_at weights parts i low are.few_parts)) in
    let most = shared weights parts numbers i w low are weight in
    record {
      value = omega (arith, more, same, is.value);
      limit = rw (sum_by_more (λ (n : ℕ). n) weights i 0 low) (omega (arith, is.limit, most));
    }

pub weighed_limit : (weights parts numbers : List ℕ) (i so_far : ℕ) → AreWeighed weights parts numbers
    → IsWeighedTo weights parts numbers i so_far → so_far ≤ most_gain
weighed_limit weights parts numbers i so_far are is =
    let front = sum_by-take-le (λ (n : ℕ). n) weights i in
    let few : sum (take i weights) ≤ most_denominator = omega (arith, front, are.weights_limit) in
    let most : sum (take i weights) * most_cost ≤ most_denominator * most_cost = mul-le-mul_right most_cost few in
    omega (arith, is.limit, most)

pub weighed_all : (weights parts numbers : List ℕ) (i so_far : ℕ) → length weights ≤ i → length weights ≤ length parts
    → IsWeighedTo weights parts numbers i so_far → so_far ≡ weighted_by (shares_of weights parts) numbers
weighed_all weights parts numbers i so_far done few is =
    let wide = length-shares_of weights parts few in
    is.value ∙ ap (λ (ws : List ℕ). weighted_by ws numbers) (take_all i (shares_of weights parts) (omega (arith, done, wide)))
