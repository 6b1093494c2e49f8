-- What the limits of a weighting's numbers imply: weighted sums, gains and bounds are within their limits.
use Rattle.std.proofs.Common.{◌≡◌, ℕ, ℤ, pos, suc, ◌+◌, ◌*◌, ◌/◌, ◌<◌, ◌≤◌, ◌+ℤ◌, ◌-ℤ◌, ◌^◌, FitsSigned, to_z, of_z, List, [], ◌∷◌, length, get_or, take, map, All, refl, sym, subst, ap, ap₂, ◌∙◌, arith}
use Rattle.std.specs.Int.{w128, int_min}
use Rattle.std.specs.List.{AllZip}
use Rattle.std.specs.List.Sorted.{IsStrictlyIncreasing}
use Rattle.std.proofs.Math.Nat.{zero-div}
use Rattle.std.proofs.lemmas.Int.{ints, clamps, to_z-of_z}
use Rattle.std.proofs.lemmas.List.{length-map, get_or-map, take_more}
use Rattle.std.proofs.lemmas.List.Elements.{All-get_or, All-weaker}
use Rattle.std.proofs.lemmas.Nat.{mul-le}
use Rattle.hub_spec.specs.Limits.{most_nodes, most_cost, most_part, most_denominator}
use Rattle.hub_spec.specs.Sums.{sum_ints}
use Rattle.hub_spec.specs.Trees.{Branching, branch_bound}
use Rattle.hub_spec.proofs.Limits.{few_candidates}
use Rattle.hub_spec.proofs.SumLemmas.{sum_ints-append}
use Rattle.leaf_bound.specs.declared.weightings.Weighting as lent
use Rattle.leaf_bound.specs.Bounds.{loads_of, weighted_total, gain_of, bound_of}
use Rattle.leaf_bound.specs.Numbers.{rows_of, IsSumOf, AreWeightingNumbers, IsNodeWithin, IsBranchWithin, weighting_of}
use Rattle.leaf_bound.specs.Weighing.{most_gain, most_bound, share_at, AreWeighed, IsWeighedTo, AreLoadsTo, IsWithin, IsGain, AreGains}
use Rattle.leaf_bound.proofs.WeightedSums.{weighed_next, weighed_limit}

length-zip : {A B : Type 0} (R : A → B → Type 0) (xs : List A) (ys : List B) → AllZip R xs ys → length xs ≡ length ys
length-zip R [] [] are = refl
length-zip R [] (y ∷ ys) are = absurd are
length-zip R (x ∷ xs) [] are = absurd are
length-zip R (x ∷ xs) (y ∷ ys) are = omega (arith, length-zip R xs ys are.1)

pub weighed_totals : (m : lent.Weighting) → AreWeightingNumbers m → AreWeighed m.weights.now m.parts.now m.totals.now
weighed_totals m are = record {
  few = are.few_weights;
  few_parts = omega (arith, are.few_weights, length-zip IsSumOf m.parts.now m.totals.now are.are_totals);
  weights_limit = omega (arith, are.weights_limit, are.denom_most);
  are_parts = All-weaker (λ (part : ℕ). (1 ≤ part) × (part ≤ most_part)) (λ (part : ℕ). 1 ≤ part) (λ part is. is.0) m.parts.now are.are_parts;
  are_numbers = are.are_totals;
}

pub weighed_node : (m : lent.Weighting) (k : ℕ) → AreWeightingNumbers m → IsNodeWithin m k
    → AreWeighed m.weights.now m.parts.now (loads_of (rows_of m) k)
weighed_node m k are node =
    let totals = weighed_totals m are in
    record {
      few = omega (arith, totals.few_parts, length-zip IsSumOf m.parts.now (loads_of (rows_of m) k) node.are_loads);
      few_parts = totals.few_parts;
      weights_limit = totals.weights_limit;
      are_parts = totals.are_parts;
      are_numbers = node.are_loads;
    }

pub within_nodes : (m : lent.Weighting) (ks : List ℕ) → All (IsNodeWithin m) ks → All (λ k. k < length m.fixed.now) ks
within_nodes m ks are = All-weaker (IsNodeWithin m) (λ k. k < length m.fixed.now) (λ k node. node.is_node) ks are

pub gain_nodes : (gains : List ℤ) (ks : List ℕ) → All (IsGain gains) ks → All (λ k. k < length gains) ks
gain_nodes gains ks are = All-weaker (IsGain gains) (λ k. k < length gains) (λ k gain. gain.is_node) ks are

pub branch_gains : (m : lent.Weighting) (gains : List ℤ) (b : Branching) → ((k : ℕ) → IsNodeWithin m k → IsGain gains k) → IsBranchWithin m b
    → AreGains gains b
branch_gains m gains b limit within = record {
  inside = All-weaker (IsNodeWithin m) (IsGain gains) limit b.inside within.inside;
  free = All-weaker (IsNodeWithin m) (IsGain gains) limit b.free within.free;
}

-- ---- gains

pub gain_limit : (denom fixed sum : ℕ) (z : ℤ) → denom ≤ most_denominator → fixed ≤ most_cost → sum ≤ most_gain
    → z ≡ pos (denom * fixed) -ℤ pos sum → IsWithin most_gain z
gain_limit denom fixed sum z few limit most is =
    let product = mul-le denom fixed most_denominator most_cost few limit in
    record { least = omega (arith, ints, is, most); most = omega (arith, ints, is, product) }

-- ---- sums of gains

pub sum_ints_more : (g : ℕ → ℤ) (ks : List ℕ) (i : ℕ) → i < length ks
    → sum_ints g (take (i + 1) ks) ≡ sum_ints g (take i ks) +ℤ g (get_or ks i 0)
sum_ints_more g ks i low =
    let last = ap (sum_ints g) (take_more ks i 0 low) in
    omega (arith, ints, last, sum_ints-append g (take i ks) (get_or ks i 0 ∷ []))

pub sum_ints_same : (g h : ℕ → ℤ) (ks : List ℕ) → All (λ k. g k ≡ h k) ks → sum_ints g ks ≡ sum_ints h ks
sum_ints_same g h [] same = refl
sum_ints_same g h (k ∷ ks) same =
    ap₂ (λ (x y : ℤ). x +ℤ y) (same 0 0 (omega arith)) (sum_ints_same g h ks (λ i d low. same (suc i) d (omega arith)))

-- gains that are read are the nodes' own
abbrev pub AreGainsOf : lent.Weighting → List ℤ → Type 0
AreGainsOf m gains = (k : ℕ) → IsNodeWithin m k → get_or gains k (pos 0) ≡ gain_of (weighting_of m) k

pub read_gains : (m : lent.Weighting) (gains : List ℤ) (nodes : List ℕ) → AreGainsOf m gains → All (IsNodeWithin m) nodes
    → All (λ k. get_or gains k (pos 0) ≡ gain_of (weighting_of m) k) nodes
read_gains m gains nodes are within = λ i d low. are (get_or nodes i d) (within i d low)

-- the bound by gains that are read, and by the sum of the totals, is the weighting's
pub bound_read : (m : lent.Weighting) (base : ℕ) (gains : List ℤ) (b : Branching) → base ≡ weighted_total (weighting_of m)
    → AreGainsOf m gains → IsBranchWithin m b → branch_bound base (λ k. get_or gains k (pos 0)) b ≡ bound_of (weighting_of m) b
bound_read m base gains b total are within =
    let by : ℕ → ℤ = λ k. get_or gains k (pos 0) in
    let own = gain_of (weighting_of m) in
    let free = read_gains m gains b.free are within.free in
    ap₂ (λ (x y : ℤ). x +ℤ y)
    (ap₂ (λ (x : ℕ) (y : ℤ). pos x +ℤ y) total (sum_ints_same by own b.inside (read_gains m gains b.inside are within.inside)))
    (sum_ints_same (λ k. int_min (pos 0) (by k)) (λ k. int_min (pos 0) (own k)) b.free (λ i d low. ap (int_min (pos 0)) (free i d low)))

-- so many gains are within so many times the limit
pub record IsSumTo (g : ℕ → ℤ) (ks : List ℕ) (i : ℕ) (so_far : ℤ) : Type 0 where
  pub value : so_far ≡ sum_ints g (take i ks)
  pub limit : IsWithin (i * most_gain) so_far

pub sum_next : (g : ℕ → ℤ) (ks : List ℕ) (i : ℕ) (so_far z : ℤ) → i < length ks → z ≡ g (get_or ks i 0) → IsWithin most_gain z
    → IsSumTo g ks i so_far → IsSumTo g ks (i + 1) (so_far +ℤ z)
sum_next g ks i so_far z low is within so = record {
  value = omega (arith, ints, so.value, is, sum_ints_more g ks i low);
  limit = record {
    least = omega (arith, ints, so.limit.least, within.least);
    most = omega (arith, ints, so.limit.most, within.most);
  };
}

-- ---- numbers that are passed by value

pub within_fits : (limit : ℕ) (z : ℤ) → limit < 2 ^ 127 → IsWithin limit z → FitsSigned w128 z
within_fits limit z short is = omega (arith, ints, is.least, is.most)

pub sum_passed : (g : ℕ → ℤ) (ks : List ℕ) (i : ℕ) (so_far z : ℤ) → i < length ks → length ks ≤ most_nodes
    → z ≡ g (get_or ks i 0) → IsWithin most_gain z → IsSumTo g ks i so_far
    → IsSumTo g ks (i + 1) (to_z w128 (of_z w128 (so_far +ℤ to_z w128 (of_z w128 z))))
sum_passed g ks i so_far z low few is within so =
    let next = sum_next g ks i so_far z low is within so in
    let fits = within_fits most_gain z (omega arith) within in
    let fits_sum = within_fits ((i + 1) * most_gain) (so_far +ℤ z) (omega (arith, low, few)) next.limit in
    rw (to_z-of_z w128 z fits, to_z-of_z w128 (so_far +ℤ z) fits_sum) next

pub loss_passed : (g z : ℤ) → IsWithin most_gain g → z ≡ int_min (to_z w128 (of_z w128 g)) (pos 0) → z ≡ int_min (pos 0) g
loss_passed g z within is =
    let same = to_z-of_z w128 g (within_fits most_gain g (omega arith) within) in
    omega (arith, ints, clamps, rw same at is)

pub loss_within : (g z : ℤ) → IsWithin most_gain g → z ≡ int_min (pos 0) g → IsWithin most_gain z
loss_within g z within is = record {
  least = omega (arith, ints, clamps, is, within.least);
  most = omega (arith, ints, clamps, is, within.most);
}

-- the nodes of a list of a branch are few
pub few_listed : (nodes listed : List ℕ) (n : ℕ) → nodes ≡ listed → IsStrictlyIncreasing listed → All (λ k. k < n) listed → n ≤ most_nodes
    → length nodes ≤ most_nodes
few_listed nodes listed n same up below most = omega (arith, ap length same, few_candidates listed n up below)

-- the three parts of a bound
pub base_within : (base : ℤ) (n : ℕ) → base ≡ pos n → n ≤ most_gain → IsWithin most_gain base
base_within base n is most = record { least = omega (arith, ints, is); most = omega (arith, ints, is, most) }

pub parts_within : (base inside free : ℤ) → IsWithin most_gain base → IsWithin (most_nodes * most_gain) inside → IsWithin (most_nodes * most_gain) free
    → IsWithin most_bound (base +ℤ inside +ℤ free)
parts_within base inside free b i f = record {
  least = omega (arith, ints, b.least, i.least, f.least);
  most = omega (arith, ints, b.most, i.most, f.most);
}

pub parts_passed : (base inside free : ℤ) → IsWithin most_gain base → IsWithin (most_nodes * most_gain) inside → IsWithin (most_nodes * most_gain) free
    → to_z w128 (of_z w128 (to_z w128 (of_z w128 (to_z w128 (of_z w128 base) +ℤ to_z w128 (of_z w128 inside))) +ℤ to_z w128 (of_z w128 free)))
    ≡ base +ℤ inside +ℤ free
parts_passed base inside free b i f =
    let sum : IsWithin most_bound (base +ℤ inside) =
    record { least = omega (arith, ints, b.least, i.least); most = omega (arith, ints, b.most, i.most) } in
    let fits_base = within_fits most_gain base (omega arith) b in
    let fits_inside = within_fits (most_nodes * most_gain) inside (omega arith) i in
    let fits_free = within_fits (most_nodes * most_gain) free (omega arith) f in
    let fits_sum = within_fits most_bound (base +ℤ inside) (omega arith) sum in
    let fits_all = within_fits most_bound (base +ℤ inside +ℤ free) (omega arith) (parts_within base inside free b i f) in
    rw (
      to_z-of_z w128 base fits_base,
      to_z-of_z w128 inside fits_inside,
      to_z-of_z w128 free fits_free,
      to_z-of_z w128 (base +ℤ inside) fits_sum,
      to_z-of_z w128 (base +ℤ inside +ℤ free) fits_all,
    ) refl

pub parts_fit : (base inside free : ℤ) → IsWithin most_gain base → IsWithin (most_nodes * most_gain) inside → IsWithin (most_nodes * most_gain) free
    → FitsSigned w128 (to_z w128 (of_z w128 (to_z w128 (of_z w128 base) +ℤ to_z w128 (of_z w128 inside))) +ℤ free)
parts_fit base inside free b i f =
    let sum : IsWithin most_bound (base +ℤ inside) =
    record { least = omega (arith, ints, b.least, i.least); most = omega (arith, ints, b.most, i.most) } in
    rw (
      to_z-of_z w128 base (within_fits most_gain base (omega arith) b),
      to_z-of_z w128 inside (within_fits (most_nodes * most_gain) inside (omega arith) i),
      to_z-of_z w128 (base +ℤ inside) (within_fits most_bound (base +ℤ inside) (omega arith) sum),
    ) (within_fits most_bound (base +ℤ inside +ℤ free) (omega arith) (parts_within base inside free b i f))

-- ---- the numbers of a node

row_at : {V : Type 0} (f : V → List ℕ) (vs : List V) (c : ℕ) (v : V) → c < length vs → v ≡ get_or vs c v → get_or (map f vs) c [] ≡ f v
row_at f vs c v low is = get_or-map f vs c v [] low ∙ ap f (sym is)

pub row_long : {V : Type 0} (f : V → List ℕ) (vs : List V) (c n : ℕ) (v : V) → c < length vs → v ≡ get_or vs c v
    → All (λ row. length row ≡ n) (map f vs) → n ≤ length (f v)
row_long f vs c n v low is wide =
    let here = All-get_or (λ (row : List ℕ). length row ≡ n) (map f vs) c [] (omega (arith, length-map vs f, low)) wide in
    omega (arith, here, ap length (row_at f vs c v low is))

pub load_at : {V : Type 0} (f : V → List ℕ) (vs : List V) (c k : ℕ) (v : V) → c < length vs → v ≡ get_or vs c v
    → get_or (loads_of (map f vs) k) c 0 ≡ get_or (f v) k 0
load_at f vs c k v low is =
    get_or-map (λ (row : List ℕ). get_or row k 0) (map f vs) c [] 0 (omega (arith, length-map vs f, low))
    ∙ ap (λ (row : List ℕ). get_or row k 0) (row_at f vs c v low is)

-- ---- the loads of a cut

pub loads_kept : (ws es : List ℕ) (rows : List (List ℕ)) (i : ℕ) (sums : List ℕ) → i < length ws
    → get_or ws i 0 ≡ 0 → AreLoadsTo ws es rows i sums → AreLoadsTo ws es rows (i + 1) sums
loads_kept ws es rows i sums low none before = record {
  each = λ k less are.
      let same : get_or sums k 0 + 0 * get_or (loads_of rows k) i 0 ≡ get_or sums k 0 = omega arith in
      let share : 0 ≡ share_at ws es i = sym (ap (λ (w : ℕ). w / get_or es i 0) none ∙ zero-div (get_or es i 0)) in
      subst (IsWeighedTo ws es (loads_of rows k) (i + 1)) same
      (weighed_next ws es (loads_of rows k) i (get_or sums k 0) 0 low are share (before.each k less are));
}

pub loads_added : (ws es : List ℕ) (rows : List (List ℕ)) (i : ℕ) (sums new : List ℕ) (w : ℕ) (row : List ℕ)
    → i < length ws → w ≡ share_at ws es i → ((k : ℕ) → get_or (loads_of rows k) i 0 ≡ get_or row k 0) → AreLoadsTo ws es rows i sums
    → length new ≡ length sums
    → ((k : ℕ) → k < length sums → get_or sums k 0 + w * get_or row k 0 < 2 ^ 128 → get_or new k 0 ≡ get_or sums k 0 + w * get_or row k 0)
    → AreLoadsTo ws es rows (i + 1) new
loads_added ws es rows i sums new w row low weight at before long added = record {
  each = λ k below are.
      let less : k < length sums = omega (arith, below, long) in
      let sum = get_or sums k 0 + w * get_or row k 0 in
      let next : IsWeighedTo ws es (loads_of rows k) (i + 1) sum =
      subst (λ (v : ℕ). IsWeighedTo ws es (loads_of rows k) (i + 1) (get_or sums k 0 + w * v)) (at k)
      (weighed_next ws es (loads_of rows k) i (get_or sums k 0) w low are weight (before.each k less are)) in
      let fits : sum < 2 ^ 128 = omega (arith, weighed_limit ws es (loads_of rows k) (i + 1) sum are next) in
      subst (IsWeighedTo ws es (loads_of rows k) (i + 1)) (sym (added k less fits)) next;
}
