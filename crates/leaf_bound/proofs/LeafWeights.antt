-- Weights in a list, and the same weights at a leaf: pairs of a cut's number and its weight, those of 0 left out.
use Rattle.std.proofs.Common.{◌≡◌, ℕ, ℤ, pos, zero, suc, ◌+◌, ◌-◌, ◌*◌, ◌/◌, ◌<◌, ◌≤◌, ◌+ℤ◌, ◌-ℤ◌, Bool, true, List, [], ◌∷◌, length, get_or, map, filter, sum, sum_by, nat_lt, ltb-true, All, None, refl, sym, subst, ap, ap₂, ◌∙◌, arith}
use Rattle.std.specs.Int.{int_min}
use Rattle.std.specs.List.{AllZip, enumerate_from}
use Rattle.std.specs.List.Sorted.{IsStrictlyIncreasing}
use Rattle.std.proofs.Math.Nat.{zero-div}
use Rattle.std.proofs.lemmas.Bool.{ltb-false}
use Rattle.std.proofs.lemmas.List.{length-map, get_or-map}
use Rattle.std.proofs.lemmas.List.FromFn.{length-enumerate_from, get_or-enumerate_from}
use Rattle.std.proofs.lemmas.List.Sums.{sum_by-cons}
use Rattle.std.proofs.lemmas.List.Elements.{All-nil, All-cons, All-head, All-tail, All-map, All-weaker, All-filter, All-contains, All-from_get_or, filter_passes}
use Rattle.hub_spec.specs.Limits.{most_denominator}
use Rattle.hub_spec.specs.Sums.{sum_ints}
use Rattle.hub_spec.specs.Problem.{Problem}
use Rattle.hub_spec.specs.Cuts.{Cut, cut_by, total, load}
use Rattle.hub_spec.specs.Trees.{Branching, cut_at, IsMultiple, mixed_total, mixed_load, mixed_gain, branch_bound, leaf_bound}
use Rattle.hub_spec.proofs.SumLemmas.{by_test, sum_by-filter-le}
use Rattle.hub_spec.proofs.Children.{plain_bound}
use Rattle.hub_spec.proofs.Ascending.{ascend_nil, ascend_cons}
use Rattle.leaf_bound.specs.Bounds.{Weighting, AreMultiples, weighted_by, shares_of, loads_of, weighted_total, weighted_load, gain_of, bound_of}
use Rattle.leaf_bound.specs.Numbers.{IsBranchBelow}
use Rattle.leaf_bound.specs.Theorems.{weight_pairs, AreLoadsOf, IsWeightingOf, AreLeafWeights}

-- whether the pair has a weight
abbrev has_weight : ℕ × ℕ → Bool
has_weight e = nat_lt 0 e.1

-- ---- sums over the pairs

-- so often the pair's weight has the part of its cut, each time with this number of the cut
abbrev shared : (ℕ → ℕ) → (ℕ → ℕ) → ℕ × ℕ → ℕ
shared part f e = e.1 / part e.0 * f e.0

-- pairs of weight 0 add nothing
sum_by-filter : (part f : ℕ → ℕ) (es : List (ℕ × ℕ)) → sum_by (shared part f) (filter has_weight es) ≡ sum_by (shared part f) es
sum_by-filter part f [] = refl
sum_by-filter part f (e ∷ es) =
    let g = shared part f in
    let rest = sum_by-filter part f es in
    let whole = sum_by-cons g e es in
    by_test (has_weight e) (λ t. rw t (omega (arith, whole, rest, sum_by-cons g e (filter has_weight es))))
    (λ t. let none : e.1 ≡ 0 = omega (arith, ltb-false 0 e.1 t) in
    let nothing : e.1 / part e.0 * f e.0 ≡ 0 = rw (none, zero-div (part e.0)) (omega arith) in
    rw t (omega (arith, whole, rest, nothing)))

sum_by-enumerate : (part f : ℕ → ℕ) (s : ℕ) (ws es xs : List ℕ) → length ws ≤ length es → length ws ≤ length xs
    → ((i : ℕ) → i < length ws → get_or es i 0 ≡ part (s + i)) → ((i : ℕ) → i < length ws → get_or xs i 0 ≡ f (s + i))
    → sum_by (shared part f) (enumerate_from s ws) ≡ weighted_by (shares_of ws es) xs
sum_by-enumerate part f s [] es xs few long of at = refl
sum_by-enumerate part f s (w ∷ ws) [] xs few long of at = absurd (omega (arith, few))
sum_by-enumerate part f s (w ∷ ws) (e ∷ es) [] few long of at = absurd (omega (arith, long))
sum_by-enumerate part f s (w ∷ ws) (e ∷ es) (x ∷ xs) few long of at =
    let whole = sum_by-cons (shared part f) (s, w) (enumerate_from (s + 1) ws) in
    let place : s + 0 ≡ s = omega arith in
    let first : w / part s * f s ≡ w / e * x =
    ap₂ (λ (d y : ℕ). w / d * y) (sym (of 0 (omega arith) ∙ ap part place)) (sym (at 0 (omega arith) ∙ ap f place)) in
    let next : (i : ℕ) → s + suc i ≡ s + 1 + i = λ i. omega arith in
    let rest = sum_by-enumerate part f (s + 1) ws es xs (omega (arith, few)) (omega (arith, long))
    (λ i low. of (suc i) (omega (arith, low)) ∙ ap part (next i)) (λ i low. at (suc i) (omega (arith, low)) ∙ ap f (next i)) in
    omega (arith, whole, first, rest)

-- the sum over the pairs is the weighted sum, where the parts and the numbers are those of the cuts
pairs_weighted : (part f : ℕ → ℕ) (ws es xs : List ℕ) → length ws ≤ length es → length ws ≤ length xs
    → ((i : ℕ) → i < length ws → get_or es i 0 ≡ part (1 + i)) → ((i : ℕ) → i < length ws → get_or xs i 0 ≡ f (1 + i))
    → sum_by (shared part f) (weight_pairs ws) ≡ weighted_by (shares_of ws es) xs
pairs_weighted part f ws es xs few long of at = sum_by-filter part f (enumerate_from 1 ws) ∙ sum_by-enumerate part f 1 ws es xs few long of at

cut_number : (cuts : List Cut) (i : ℕ) → cut_at cuts (1 + i) ≡ get_or cuts i (cut_by [])
cut_number cuts i = let place : 1 + i - 1 ≡ i = omega arith in ap (λ (j : ℕ). get_or cuts j (cut_by [])) place

part_at : (cuts : List Cut) (i : ℕ) → i < length cuts → get_or (map (λ (cut : Cut). cut.part) cuts) i 0 ≡ (cut_at cuts (1 + i)).part
part_at cuts i low = get_or-map (λ (cut : Cut). cut.part) cuts i (cut_by []) 0 low ∙ ap (λ (cut : Cut). cut.part) (sym (cut_number cuts i))

totals_weighted : (cuts : List Cut) (ws : List ℕ) → length ws ≤ length cuts
    → mixed_total cuts (weight_pairs ws) ≡ weighted_by (shares_of ws (map (λ (cut : Cut). cut.part) cuts)) (map total cuts)
totals_weighted cuts ws few =
    pairs_weighted (λ (c : ℕ). (cut_at cuts c).part) (λ (c : ℕ). total (cut_at cuts c)) ws (map (λ (cut : Cut). cut.part) cuts) (map total cuts)
    (omega (arith, few, length-map cuts (λ (cut : Cut). cut.part))) (omega (arith, few, length-map cuts total))
    (λ i low. part_at cuts i (omega (arith, few, low))) (λ i low.
    get_or-map total cuts i (cut_by []) 0 (omega (arith, few, low)) ∙ ap total (sym (cut_number cuts i)))

-- each cut has its row of loads
rows_long : (p : Problem) (cuts : List Cut) (rows : List (List ℕ)) → AllZip (AreLoadsOf p) cuts rows → length rows ≡ length cuts
rows_long p [] [] are = refl
rows_long p [] (row ∷ rows) are = absurd are
rows_long p (cut ∷ cuts) [] are = absurd are
rows_long p (cut ∷ cuts) (row ∷ rows) are = omega (arith, rows_long p cuts rows are.1)

row_at : (p : Problem) (cuts : List Cut) (rows : List (List ℕ)) (i : ℕ) → AllZip (AreLoadsOf p) cuts rows → i < length cuts
    → AreLoadsOf p (get_or cuts i (cut_by [])) (get_or rows i [])
row_at p [] rows i are low = absurd (omega arith)
row_at p (cut ∷ cuts) [] i are low = absurd are
row_at p (cut ∷ cuts) (row ∷ rows) zero are low = are.0
row_at p (cut ∷ cuts) (row ∷ rows) (suc i) are low = row_at p cuts rows i are.1 (omega arith)

loads_weighted : (p : Problem) (cuts : List Cut) (m : Weighting) (k : ℕ) → IsWeightingOf p cuts m → k < p.size
    → mixed_load cuts (weight_pairs m.weights) k ≡ weighted_load m k
loads_weighted p cuts m k made node =
    let rows = rows_long p cuts m.loads made.loads in
    let long = length-map m.loads (λ (row : List ℕ). get_or row k 0) in
    let parts = ap (λ (ks : List ℕ). length ks) made.parts in
    pairs_weighted (λ (c : ℕ). (cut_at cuts c).part) (λ (c : ℕ). load (cut_at cuts c) k) m.weights m.parts (loads_of m.loads k)
    (omega (arith, made.few_weights, parts, length-map cuts (λ (cut : Cut). cut.part))) (omega (arith, made.few_weights, rows, long))
    (λ i low. ap (λ (ks : List ℕ). get_or ks i 0) made.parts ∙ part_at cuts i (omega (arith, made.few_weights, low))) (λ i low.
    let below : i < length cuts = omega (arith, made.few_weights, low) in
    get_or-map (λ (row : List ℕ). get_or row k 0) m.loads i [] 0 (omega (arith, made.few_weights, rows, low))
    ∙ row_at p cuts m.loads i made.loads below k node
    ∙ ap (λ (cut : Cut). load cut k) (sym (cut_number cuts i)))

-- ---- the bound

pub sum_ints-same : (f g : ℕ → ℤ) (n : ℕ) (ks : List ℕ) → All (λ k. k < n) ks → ((k : ℕ) → k < n → f k ≡ g k) → sum_ints f ks ≡ sum_ints g ks
sum_ints-same f g n [] below same = refl
sum_ints-same f g n (k ∷ ks) below same =
    ap₂ (λ (x y : ℤ). x +ℤ y) (same k (All-head (λ k. k < n) k ks below)) (sum_ints-same f g n ks (All-tail (λ k. k < n) k ks below) same)

-- the total and the gains of a leaf with these weights are those of the weights in a list
pub total_is : (p : Problem) (cuts : List Cut) (m : Weighting) → IsWeightingOf p cuts m → mixed_total cuts (weight_pairs m.weights) ≡ weighted_total m
total_is p cuts m made =
    totals_weighted cuts m.weights made.few_weights
    ∙ ap₂ (λ (es xs : List ℕ). weighted_by (shares_of m.weights es) xs) (sym made.parts) (sym made.totals)

pub gain_is : (p : Problem) (cuts : List Cut) (m : Weighting) (k : ℕ) → IsWeightingOf p cuts m → k < p.size
    → mixed_gain p cuts m.denom (weight_pairs m.weights) k ≡ gain_of m k
gain_is p cuts m k made node =
    ap₂ (λ (x y : ℕ). pos (m.denom * x) -ℤ pos y) (sym (made.fixed k node)) (loads_weighted p cuts m k made node)

-- their plain bound, whatever number of hubs is wanted
pub plain_has_bound : (p : Problem) (cuts : List Cut) (m : Weighting) (b : Branching) → IsWeightingOf p cuts m → IsBranchBelow p.size b
    → branch_bound (mixed_total cuts (weight_pairs m.weights)) (mixed_gain p cuts m.denom (weight_pairs m.weights)) b ≡ bound_of m b
plain_has_bound p cuts m b made below =
    let g = mixed_gain p cuts m.denom (weight_pairs m.weights) in
    let same = λ (k : ℕ) (node : k < p.size). gain_is p cuts m k made node in
    let inside = sum_ints-same g (gain_of m) p.size b.inside below.inside same in
    let free = sum_ints-same (λ k. int_min (pos 0) (g k)) (λ k. int_min (pos 0) (gain_of m k)) p.size b.free below.free
    (λ k node. ap (int_min (pos 0)) (same k node)) in
    ap₂ (λ (x y : ℤ). x +ℤ y) (ap₂ (λ (x y : ℤ). x +ℤ y) (ap pos (total_is p cuts m made)) inside) free

pub leaf_has_bound : (p : Problem) (cuts : List Cut) (m : Weighting) (b : Branching) → p.wanted ≡ None → IsWeightingOf p cuts m → IsBranchBelow p.size b
    → leaf_bound p cuts m.denom (weight_pairs m.weights) b ≡ bound_of m b
leaf_has_bound p cuts m b any made below =
    plain_bound p cuts m.denom (weight_pairs m.weights) b any ∙ plain_has_bound p cuts m b made below

-- ---- what the pairs are

-- the numbers from s on
numbers_from : (s : ℕ) (ws : List ℕ) → All (λ (e : ℕ × ℕ). (s ≤ e.0) × (e.0 < s + length ws)) (enumerate_from s ws)
numbers_from s ws =
    All-from_get_or (λ (e : ℕ × ℕ). (s ≤ e.0) × (e.0 < s + length ws)) (enumerate_from s ws) (0, 0) (λ i low.
    let short : i < length ws = omega (arith, low, length-enumerate_from s ws) in
    rw (get_or-enumerate_from s ws i (0, 0) short) (omega arith, omega (arith, short)))

pairs_ascend : (s : ℕ) (ws : List ℕ) → IsStrictlyIncreasing (map (λ (e : ℕ × ℕ). e.0) (filter has_weight (enumerate_from s ws)))
pairs_ascend s [] = ascend_nil
pairs_ascend s (w ∷ ws) =
    let rest = filter has_weight (enumerate_from (s + 1) ws) in
    let above : All (λ (e : ℕ × ℕ). s < e.0) rest =
    All-weaker (λ (e : ℕ × ℕ). (s + 1 ≤ e.0) × (e.0 < s + 1 + length ws)) (λ (e : ℕ × ℕ). s < e.0) (λ e is. omega (arith, is.0)) rest
    (All-filter has_weight (λ (e : ℕ × ℕ). (s + 1 ≤ e.0) × (e.0 < s + 1 + length ws)) (enumerate_from (s + 1) ws) (numbers_from (s + 1) ws)) in
    let over = All-map (λ (m : ℕ). s < m) (λ (e : ℕ × ℕ). e.0) rest above in
    by_test (nat_lt 0 w)
    (λ t. rw t (ascend_cons s (map (λ (e : ℕ × ℕ). e.0) rest) (λ m c. All-contains (λ (m : ℕ). s < m) (map (λ (e : ℕ × ℕ). e.0) rest) m over c)
    (pairs_ascend (s + 1) ws)))
    (λ t. rw t (pairs_ascend (s + 1) ws))

sum-enumerate : (s : ℕ) (ws : List ℕ) → sum_by (λ (e : ℕ × ℕ). e.1) (enumerate_from s ws) ≡ sum ws
sum-enumerate s [] = refl
sum-enumerate s (w ∷ ws) =
    omega (
      arith,
      sum_by-cons (λ (e : ℕ × ℕ). e.1) (s, w) (enumerate_from (s + 1) ws),
      sum_by-cons (λ (n : ℕ). n) w ws,
      sum-enumerate (s + 1) ws,
    )

multiples_from : (part : ℕ → ℕ) (s : ℕ) (ws es : List ℕ) → AreMultiples ws es → ((i : ℕ) → i < length ws → get_or es i 0 ≡ part (s + i))
    → All (λ (e : ℕ × ℕ). e.1 / part e.0 * part e.0 ≡ e.1) (enumerate_from s ws)
multiples_from part s [] es are of = All-nil (λ (e : ℕ × ℕ). e.1 / part e.0 * part e.0 ≡ e.1)
multiples_from part s (w ∷ ws) [] are of = absurd are
multiples_from part s (w ∷ ws) (e ∷ es) are of =
    let place : s + 0 ≡ s = omega arith in
    let next : (i : ℕ) → s + suc i ≡ s + 1 + i = λ i. omega arith in
    let first : w / part s * part s ≡ w = subst (λ (d : ℕ). w / d * d ≡ w) (of 0 (omega arith) ∙ ap part place) are.0 in
    All-cons (λ (e : ℕ × ℕ). e.1 / part e.0 * part e.0 ≡ e.1) (s, w) (enumerate_from (s + 1) ws) first
    (multiples_from part (s + 1) ws es are.1 (λ i low. of (suc i) (omega (arith, low)) ∙ ap part (next i)))

-- weights that are multiples are so at a leaf
pairs_multiple : (cuts : List Cut) (ws : List ℕ) → AreMultiples ws (map (λ (cut : Cut). cut.part) cuts) → length ws ≤ length cuts
    → All (IsMultiple cuts) (weight_pairs ws)
pairs_multiple cuts ws are few =
    All-filter has_weight (IsMultiple cuts) (enumerate_from 1 ws)
    (multiples_from (λ (c : ℕ). (cut_at cuts c).part) 1 ws (map (λ (cut : Cut). cut.part) cuts) are (λ i low. part_at cuts i (omega (arith, few, low))))

pub pairs_mix : (cuts : List Cut) (denom : ℕ) (ws : List ℕ) → AreMultiples ws (map (λ (cut : Cut). cut.part) cuts) → length ws ≤ length cuts
    → 1 ≤ denom → denom ≤ most_denominator → sum ws ≤ denom → AreLeafWeights cuts denom (weight_pairs ws)
pairs_mix cuts denom ws are few least most sum_limit = record {
  mix = record {
    denom_least = least;
    denom_most = most;
    numbers = All-weaker (λ (e : ℕ × ℕ). (1 ≤ e.0) × (e.0 < 1 + length ws)) (λ (e : ℕ × ℕ). (1 ≤ e.0) × (e.0 ≤ length cuts))
        (λ e is. (is.0, omega (arith, is.1, few))) (weight_pairs ws)
        (All-filter has_weight (λ (e : ℕ × ℕ). (1 ≤ e.0) × (e.0 < 1 + length ws)) (enumerate_from 1 ws) (numbers_from 1 ws));
    multiples = pairs_multiple cuts ws are few;
    most = omega (arith, sum_by-filter-le (λ (e : ℕ × ℕ). e.1) has_weight (enumerate_from 1 ws), sum-enumerate 1 ws, sum_limit);
  };
  ascend = pairs_ascend 1 ws;
  above = All-weaker (λ (e : ℕ × ℕ). has_weight e ≡ true) (λ (e : ℕ × ℕ). 1 ≤ e.1) (λ e passes. omega (arith, ltb-true 0 e.1 passes)) (weight_pairs ws)
      (filter_passes has_weight (enumerate_from 1 ws));
}
