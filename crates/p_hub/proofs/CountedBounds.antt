-- The bound of a branch for exactly n hubs: by gains that are read of a list, and at a leaf.
use Rattle.std.proofs.Common.{◌≡◌, ℕ, zero, suc, ◌<◌, ℤ, pos, ◌+ℤ◌, ◌-◌, List, [], ◌∷◌, length, get_or, All, Option, Some, None, nat_lt, if◌then◌else◌, refl, sym, ap, ap₂, ◌∙◌}
use Rattle.std.specs.Int.{int_min}
use Rattle.std.proofs.lemmas.List.Elements.{All-head, All-tail}
use Rattle.hub_spec.specs.Sums.{least_sum}
use Rattle.hub_spec.specs.Problem.{Problem}
use Rattle.hub_spec.specs.Cuts.{Cut}
use Rattle.hub_spec.specs.Trees.{Branching, mixed_total, mixed_gain, counted_bound, bound_by, leaf_bound}
use Rattle.hub_spec.proofs.SortedSums.{put, rising, front_sum, least_is_front}
use Rattle.leaf_bound.specs.Bounds.{Weighting, weighted_total, gain_of}
use Rattle.leaf_bound.specs.declared.weightings.Weighting as lent
use Rattle.leaf_bound.specs.Numbers.{IsBranchBelow, IsBranchWithin, weighting_of}
use Rattle.leaf_bound.specs.Theorems.{weight_pairs, IsWeightingOf}
use Rattle.leaf_bound.proofs.LentNumbers.{sum_ints_same, AreGainsOf, read_gains}
use Rattle.leaf_bound.proofs.LeafWeights.{total_is, gain_is, leaf_has_bound}
use Rattle.p_hub.specs.Counted.{counted_of, bound_for, gain_in, AreRising}
use Rattle.p_hub.proofs.RisingGains.{values_rising}

-- ---- the same gains

-- two gains agree on these nodes
abbrev pub Agree : (ℕ → ℤ) → (ℕ → ℤ) → List ℕ → Type 0
Agree f g ks = All (λ k. f k ≡ g k) ks

least_same : (m : ℕ) (f g : ℕ → ℤ) (ks : List ℕ) → Agree f g ks → least_sum m f ks ≡ least_sum m g ks
least_same zero f g ks same = refl
least_same (suc m) f g [] same = refl
least_same (suc m) f g (k ∷ ks) same =
    let rest = All-tail (λ (k : ℕ). f k ≡ g k) k ks same in
    let with = ap₂ (λ (x y : ℤ). x +ℤ y) (All-head (λ (k : ℕ). f k ≡ g k) k ks same) (least_same m f g ks rest) in
    ap₂ (λ (x y : ℤ). if nat_lt m (length ks) then int_min x y else x) with (least_same (suc m) f g ks rest)

pub rising_same : (f g : ℕ → ℤ) (ks : List ℕ) → Agree f g ks → rising f ks ≡ rising g ks
rising_same f g [] same = refl
rising_same f g (k ∷ ks) same =
    ap₂ put (All-head (λ (k : ℕ). f k ≡ g k) k ks same) (rising_same f g ks (All-tail (λ (k : ℕ). f k ≡ g k) k ks same))

counted_same : (n base total : ℕ) (f g : ℕ → ℤ) (b : Branching) → base ≡ total → Agree f g b.inside → Agree f g b.free
    → counted_bound n base f b ≡ counted_bound n total g b
counted_same n base total f g b sum inside free =
    ap₂ (λ (x y : ℤ). x +ℤ y) (ap₂ (λ (x : ℕ) (y : ℤ). pos x +ℤ y) sum (sum_ints_same f g b.inside inside))
    (least_same (n - length b.inside) f g b.free free)

-- ---- gains that are read

pub counted_read : (n : ℕ) (m : lent.Weighting) (base : ℕ) (gains : List ℤ) (b : Branching) → base ≡ weighted_total (weighting_of m)
    → AreGainsOf m gains → IsBranchWithin m b → counted_bound n base (gain_in gains) b ≡ counted_of n (weighting_of m) b
counted_read n m base gains b total are within =
    counted_same n base (weighted_total (weighting_of m)) (gain_in gains) (gain_of (weighting_of m)) b total
    (read_gains m gains b.inside are within.inside) (read_gains m gains b.free are within.free)

-- the first of the rising gains are those that are missing
pub front_is_least : (m : ℕ) (gains : List ℤ) (nodes : List ℕ) (values : List ℤ) → AreRising gains nodes values
    → front_sum m values ≡ least_sum m (gain_in gains) nodes
front_is_least m gains nodes values are =
    ap (front_sum m) (values_rising gains nodes values are) ∙ sym (least_is_front m (gain_in gains) nodes)

-- ---- a leaf

pub pairs_counted : (n : ℕ) (p : Problem) (cuts : List Cut) (m : Weighting) (b : Branching) → IsWeightingOf p cuts m → IsBranchBelow p.size b
    → counted_bound n (mixed_total cuts (weight_pairs m.weights)) (mixed_gain p cuts m.denom (weight_pairs m.weights)) b ≡ counted_of n m b
pairs_counted n p cuts m b made below =
    let g = mixed_gain p cuts m.denom (weight_pairs m.weights) in
    let agree = λ (ks : List ℕ) (nodes : All (λ k. k < p.size) ks) (i d : ℕ) (low : i < length ks). gain_is p cuts m (get_or ks i d) made (nodes i d low) in
    counted_same n (mixed_total cuts (weight_pairs m.weights)) (weighted_total m) g (gain_of m) b (total_is p cuts m made)
    (agree b.inside below.inside) (agree b.free below.free)

pub leaf_counted : (n : ℕ) (p : Problem) (cuts : List Cut) (m : Weighting) (b : Branching) → p.wanted ≡ Some n → IsWeightingOf p cuts m
    → IsBranchBelow p.size b → leaf_bound p cuts m.denom (weight_pairs m.weights) b ≡ counted_of n m b
leaf_counted n p cuts m b wanted made below =
    ap (λ (o : Option ℕ). bound_by o (mixed_total cuts (weight_pairs m.weights)) (mixed_gain p cuts m.denom (weight_pairs m.weights)) b) wanted
    ∙ pairs_counted n p cuts m b made below

-- by the wanted number of hubs, if there is one
pub leaf_for : (p : Problem) (wanted : Option ℕ) (cuts : List Cut) (m : Weighting) (b : Branching) → p.wanted ≡ wanted → IsWeightingOf p cuts m
    → IsBranchBelow p.size b → leaf_bound p cuts m.denom (weight_pairs m.weights) b ≡ bound_for wanted m b
leaf_for p None cuts m b any made below = leaf_has_bound p cuts m b any made below
leaf_for p (Some n) cuts m b wanted made below = leaf_counted n p cuts m b wanted made below
