-- The weights of a leaf, listed cut by cut.
use Rattle.std.proofs.Common.{◌≡◌, ℕ, ◌+◌, ◌^◌, ◌<◌, ◌≤◌, ℤ, pos, ◌≤ℤ◌, List, [], ◌∷◌, ◌++◌, length, take, get_or, map, filter, nat_lt, All, Bool, true, if◌then◌else◌, refl, sym, ap, subst, ◌∙◌, append-nil, lt-ltb, ltb-true, arith}
use Rattle.std.specs.List.{enumerate_from}
use Rattle.std.specs.List.Sorted.{IsStrictlyIncreasing}
use Rattle.std.proofs.lemmas.Int.{ints}
use Rattle.std.proofs.lemmas.List.{map-append, take_more, length-take}
use Rattle.std.proofs.lemmas.List.FromFn.{length-enumerate_from, get_or-enumerate_from}
use Rattle.std.proofs.lemmas.List.Elements.{All-map, All-weaker, All-filter, All-contains, All-from_get_or, filter-append, filter_passes}
use Rattle.hub_spec.proofs.Ascending.{ascend_nil, ascend_cons}
use Rattle.hub_spec.proofs.SumLemmas.{by_test}
use Rattle.hub_model.specs.Amounts.{natural}
use Rattle.hub_model.specs.Mixtures.{natural_weights, signed_weights, IsSignedMixture}
use Rattle.leaf_bound.specs.Theorems.{weight_pairs}
use Rattle.search_spec.specs.States.{denominator}
use Rattle.search_steps.specs.Weights.{pairs_of}

-- the weights of a node can be written with a sign
pub weights_fit : (ws : List ℕ) → All (λ (w : ℕ). w ≤ denominator) ws → All (λ (w : ℕ). w < 2 ^ 127) ws
weights_fit ws each = All-weaker (λ (w : ℕ). w ≤ denominator) (λ (w : ℕ). w < 2 ^ 127) (λ w low. omega (arith, low)) ws each

abbrev has_weight : ℕ × ℕ → Bool
has_weight e = nat_lt 0 e.1

-- ---- what the pairs are

numbers_from : (s : ℕ) (ws : List ℕ) → All (λ (e : ℕ × ℕ). s ≤ e.0) (enumerate_from s ws)
numbers_from s ws =
    All-from_get_or (λ (e : ℕ × ℕ). s ≤ e.0) (enumerate_from s ws) (0, 0) (λ i low.
    let short : i < length ws = omega (arith, low, length-enumerate_from s ws) in
    rw (get_or-enumerate_from s ws i (0, 0) short) (omega arith))

pairs_from : (s : ℕ) (ws : List ℕ) → All (λ (e : ℕ × ℕ). s ≤ e.0) (filter has_weight (enumerate_from s ws))
pairs_from s ws = All-filter has_weight (λ (e : ℕ × ℕ). s ≤ e.0) (enumerate_from s ws) (numbers_from s ws)

pairs_ascend : (s : ℕ) (ws : List ℕ) → IsStrictlyIncreasing (map (λ (e : ℕ × ℕ). e.0) (filter has_weight (enumerate_from s ws)))
pairs_ascend s [] = ascend_nil
pairs_ascend s (w ∷ ws) =
    let rest = map (λ (e : ℕ × ℕ). e.0) (filter has_weight (enumerate_from (s + 1) ws)) in
    let over : All (λ (m : ℕ). s < m) rest = All-map (λ (m : ℕ). s < m) (λ (e : ℕ × ℕ). e.0) (filter has_weight (enumerate_from (s + 1) ws))
    (All-weaker (λ (e : ℕ × ℕ). s + 1 ≤ e.0) (λ (e : ℕ × ℕ). s < e.0) (λ e is. omega (arith, is)) (filter has_weight (enumerate_from (s + 1) ws))
    (pairs_from (s + 1) ws)) in
    by_test (nat_lt 0 w)
    (λ t. rw t (ascend_cons s rest (λ m c. All-contains (λ (m : ℕ). s < m) rest m over c) (pairs_ascend (s + 1) ws)))
    (λ t. rw t (pairs_ascend (s + 1) ws))

firsts : (w : List (ℕ × ℕ)) → map (λ (e : ℤ × ℤ). natural e.0) (signed_weights w) ≡ map (λ (e : ℕ × ℕ). e.0) w
firsts [] = refl
firsts (e ∷ w) = ap (λ (xs : List ℕ). e.0 ∷ xs) (firsts w)

naturals_again : (w : List (ℕ × ℕ)) → natural_weights (signed_weights w) ≡ w
naturals_again [] = refl
naturals_again (e ∷ w) = ap (λ (xs : List (ℕ × ℕ)). e ∷ xs) (naturals_again w)

-- signed, they are a mix over the denominator
pub signed_mixture : (ws : List ℕ) (pairs : List (ℤ × ℤ)) → pairs ≡ signed_weights (weight_pairs ws) → IsSignedMixture (pos 1000000) pairs
signed_mixture ws pairs is =
    let w = weight_pairs ws in
    subst (IsSignedMixture (pos 1000000)) (sym is) (record {
      denom_least = omega (arith, ints);
      numbers = All-map (λ (e : ℤ × ℤ). pos 1 ≤ℤ e.0) (λ (e : ℕ × ℕ). (pos e.0, pos e.1)) w
          (All-weaker (λ (e : ℕ × ℕ). 1 ≤ e.0) (λ (e : ℕ × ℕ). pos 1 ≤ℤ pos e.0) (λ e low. omega (arith, ints, low)) w (pairs_from 1 ws));
      values = All-map (λ (e : ℤ × ℤ). pos 1 ≤ℤ e.1) (λ (e : ℕ × ℕ). (pos e.0, pos e.1)) w
          (All-weaker (λ (e : ℕ × ℕ). has_weight e ≡ true) (λ (e : ℕ × ℕ). pos 1 ≤ℤ pos e.1)
          (λ e passes. let low = ltb-true 0 e.1 passes in omega (arith, ints, low)) w (filter_passes has_weight (enumerate_from 1 ws)));
      ascend = subst IsStrictlyIncreasing (sym (firsts w)) (pairs_ascend 1 ws);
    })

pub mixture_weights : (ws : List ℕ) (pairs : List (ℤ × ℤ)) → pairs ≡ signed_weights (weight_pairs ws) → natural_weights pairs ≡ weight_pairs ws
mixture_weights ws pairs is = ap natural_weights is ∙ naturals_again (weight_pairs ws)

-- ---- one weight more

enumerate_push : (s : ℕ) (ws : List ℕ) (w : ℕ) → enumerate_from s (ws ++ w ∷ []) ≡ enumerate_from s ws ++ (s + length ws, w) ∷ []
enumerate_push s [] w = ap (λ (n : ℕ). (n, w) ∷ []) (omega arith)
enumerate_push s (x ∷ ws) w =
    ap (λ (es : List (ℕ × ℕ)). (s, x) ∷ es) (enumerate_push (s + 1) ws w
    ∙ ap (λ (n : ℕ). enumerate_from (s + 1) ws ++ (n, w) ∷ []) (omega arith))

pairs_push : (ws : List ℕ) (w : ℕ) → weight_pairs (ws ++ w ∷ []) ≡ weight_pairs ws ++ (if nat_lt 0 w then (1 + length ws, w) ∷ [] else [])
pairs_push ws w =
    ap (filter has_weight) (enumerate_push 1 ws w) ∙ filter-append has_weight (enumerate_from 1 ws) ((1 + length ws, w) ∷ [])

-- the weights so far, with the next
pairs_next : (weights : List ℕ) (i : ℕ) → i < length weights
    → pairs_of (take (i + 1) weights) ≡ pairs_of (take i weights) ++ (if nat_lt 0 (get_or weights i 0) then (1 + i, get_or weights i 0) ∷ [] else [])
pairs_next weights i low =
    let w = get_or weights i 0 in
    let many : length (take i weights) ≡ i = omega (arith, length-take i weights, low) in
    ap weight_pairs (take_more weights i 0 low) ∙ pairs_push (take i weights) w
    ∙ ap (λ (n : ℕ). pairs_of (take i weights) ++ (if nat_lt 0 w then (1 + n, w) ∷ [] else [])) many

pub pair_passed : (weights : List ℕ) (i : ℕ) (pairs : List (ℤ × ℤ)) → i < length weights → get_or weights i 0 ≤ 0
    → pairs ≡ signed_weights (pairs_of (take i weights)) → pairs ≡ signed_weights (pairs_of (take (i + 1) weights))
pair_passed weights i pairs low none so_far =
    let before = pairs_of (take i weights) in
    let is_none : get_or weights i 0 ≡ 0 = omega (arith, none) in
    so_far ∙ ap signed_weights (sym (pairs_next weights i low
    ∙ ap (λ (n : ℕ). before ++ (if nat_lt 0 n then (1 + i, n) ∷ [] else [])) is_none ∙ append-nil before))

pub pair_pushed : (weights : List ℕ) (i : ℕ) (pairs : List (ℤ × ℤ)) (number weight : ℤ) → i < length weights → 0 < get_or weights i 0
    → number ≡ pos (i + 1) → weight ≡ pos (get_or weights i 0) → pairs ≡ signed_weights (pairs_of (take i weights))
    → pairs ++ (number, weight) ∷ [] ≡ signed_weights (pairs_of (take (i + 1) weights))
pair_pushed weights i pairs number weight low some is_number is_weight so_far =
    let before = pairs_of (take i weights) in
    let n = get_or weights i 0 in
    let first : number ≡ pos (1 + i) = is_number ∙ ap pos (omega arith) in
    (λ j. so_far j ++ (first j, is_weight j) ∷ [])
    ∙ sym (map-append (λ (e : ℕ × ℕ). (pos e.0, pos e.1)) before ((1 + i, n) ∷ []))
    ∙ ap signed_weights (sym (pairs_next weights i low
    ∙ ap (λ (t : Bool). before ++ (if t then (1 + i, n) ∷ [] else [])) (lt-ltb 0 n some)))
