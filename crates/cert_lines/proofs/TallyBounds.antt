-- The bound of a branch by a leaf's sums.
use Rattle.std.proofs.Common.{◌≡◌, ℕ, zero, suc, ◌+◌, ◌-◌, ◌*◌, ◌^◌, ◌<◌, ◌≤◌, ℤ, pos, ◌+ℤ◌, ◌-ℤ◌, ◌≤ℤ◌, FitsSigned, to_z, of_z, List, [], ◌∷◌, length, Option, Some, None, nat_lt, if◌then◌else◌, slice_index, sum_by, Contains, ap, ap₂, refl, sym, ◌∙◌, arith}
use Rattle.std.specs.Int.{w128, int_min}
use Rattle.std.proofs.lemmas.Int.{ints, to_z-of_z}
use Rattle.std.proofs.lemmas.List.Elements.{All-contains}
use Rattle.hub_spec.specs.Limits.{most_nodes}
use Rattle.hub_spec.specs.Sums.{sum_ints, least_sum}
use Rattle.hub_spec.specs.Problem.{Problem, IsProblem, fixed_cost}
use Rattle.hub_spec.specs.Cuts.{Cut}
use Rattle.hub_spec.specs.Trees.{Branching, IsBranch, bound_by, mixed_gain, leaf_bound}
use Rattle.hub_spec.proofs.Sets.{Contains-head, Contains-later}
use Rattle.hub_spec.proofs.Mixes.{candidate_is_node, sum_ints-gains, sum_ints-losses}
use Rattle.cert_lines.specs.LeastGains.{most_gains, AreGains}
use Rattle.cert_lines.specs.Tallies.{Tally, AreSumsOf, tally_gain, tally_bound, free_sum}

-- ---- sums of gains that are the same at the nodes of a list

pub sum_ints-same : (g h : ℕ → ℤ) (ks : List ℕ) → ((k : ℕ) → Contains ks k → g k ≡ h k) → sum_ints g ks ≡ sum_ints h ks
sum_ints-same g h [] same = refl
sum_ints-same g h (k ∷ ks) same =
    ap₂ (λ x y. x +ℤ y) (same k (Contains-head k ks)) (sum_ints-same g h ks (λ m c. same m (Contains-later k ks m c)))

least_sum-same : (m : ℕ) (g h : ℕ → ℤ) (ks : List ℕ) → ((k : ℕ) → Contains ks k → g k ≡ h k) → least_sum m g ks ≡ least_sum m h ks
least_sum-same zero g h ks same = refl
least_sum-same (suc m) g h [] same = refl
least_sum-same (suc m) g h (k ∷ ks) same =
    let later : (x : ℕ) → Contains ks x → g x ≡ h x = λ x c. same x (Contains-later k ks x c) in
    let takes : g k +ℤ least_sum m g ks ≡ h k +ℤ least_sum m h ks =
    ap₂ (λ x y. x +ℤ y) (same k (Contains-head k ks)) (least_sum-same m g h ks later) in
    ap₂ (λ x y. if nat_lt m (length ks) then int_min x y else x) takes (least_sum-same (suc m) g h ks later)

bound_by-same : (wanted : Option ℕ) (base : ℕ) (g h : ℕ → ℤ) (b : Branching) → ((k : ℕ) → Contains b.inside k → g k ≡ h k)
    → ((k : ℕ) → Contains b.free k → g k ≡ h k) → bound_by wanted base g b ≡ bound_by wanted base h b
bound_by-same None base g h b inside free =
    ap₂ (λ x y. pos base +ℤ x +ℤ y) (sum_ints-same g h b.inside inside)
    (sum_ints-same (λ k. int_min (pos 0) (g k)) (λ k. int_min (pos 0) (h k)) b.free (λ k c. ap (λ x. int_min (pos 0) x) (free k c)))
bound_by-same (Some n) base g h b inside free =
    ap₂ (λ x y. pos base +ℤ x +ℤ y) (sum_ints-same g h b.inside inside) (least_sum-same (n - length b.inside) g h b.free free)

-- ---- the bound at a leaf

pub bounds_leaf : (p : Problem) (cuts : List Cut) (denom : ℕ) (weights : List (ℕ × ℕ)) (b : Branching) (tally : Tally)
    → IsProblem p → IsBranch p b → AreSumsOf p.size cuts denom weights tally
    → tally_bound p tally b ≡ leaf_bound p cuts denom weights b
bounds_leaf p cuts denom weights b tally ok is_branch sums =
    let same : (k : ℕ) → Contains p.candidates k → tally_gain p tally k ≡ mixed_gain p cuts denom weights k = λ k c.
    ap₂ (λ (d l : ℕ). pos (d * fixed_cost p k) -ℤ pos l) sums.denom_is (sums.loads_are k (candidate_is_node p k ok c)) in
    ap (λ (n : ℕ). bound_by p.wanted n (tally_gain p tally) b) sums.base_is
    ∙ bound_by-same p.wanted _ (tally_gain p tally) (mixed_gain p cuts denom weights) b
    (λ k c. same k (All-contains (Contains p.candidates) b.inside k is_branch.inside_are c))
    (λ k c. same k (All-contains (Contains p.candidates) b.free k is_branch.free_are c))

-- ---- the bound by its parts

parts_bound : (wanted : Option ℕ) (base costs gone : ℕ) (g : ℕ → ℤ) (b : Branching) → sum_ints g b.inside ≡ pos costs -ℤ pos gone
    → (pos (base + costs) -ℤ pos gone) +ℤ free_sum wanted g b ≡ bound_by wanted base g b
parts_bound None base costs gone g b inside = omega (arith, ints, inside)
parts_bound (Some n) base costs gone g b inside = omega (arith, ints, inside)

pub bound_of_parts : (p : Problem) (tally : Tally) (b : Branching) (costs gone : ℕ)
    → costs ≡ sum_by (λ k. tally.denom * fixed_cost p k) b.inside → gone ≡ sum_by (slice_index tally.loads) b.inside
    → (pos (tally.base + costs) -ℤ pos gone) +ℤ free_sum p.wanted (tally_gain p tally) b ≡ tally_bound p tally b
bound_of_parts p tally b costs gone costs_are gone_are =
    parts_bound p.wanted tally.base costs gone (tally_gain p tally) b
    (sum_ints-gains tally.denom (fixed_cost p) (slice_index tally.loads) b.inside ∙ ap₂ (λ (x y : ℕ). pos x -ℤ pos y) (sym costs_are) (sym gone_are))

-- what free nodes add where any number of hubs will do
pub free_losses : (p : Problem) (tally : Tally) (b : Branching) (losses : ℕ) → p.wanted ≡ None
    → losses ≡ sum_by (λ k. slice_index tally.loads k - tally.denom * fixed_cost p k) b.free
    → pos 0 -ℤ pos losses ≡ free_sum p.wanted (tally_gain p tally) b
free_losses p tally b losses any losses_are =
    ap (λ (n : ℕ). pos 0 -ℤ pos n) losses_are
    ∙ sym (sum_ints-losses tally.denom (fixed_cost p) (slice_index tally.loads) b.free)
    ∙ ap (λ (wanted : Option ℕ). free_sum wanted (tally_gain p tally) b) (sym any)

-- ---- numbers that are handed on

within_fits : (n : ℕ) (z : ℤ) → n < 2 ^ 127 → (pos 0 -ℤ pos n) ≤ℤ z → z ≤ℤ pos n → FitsSigned w128 z
within_fits n z short least most = omega (arith, ints, short, least, most)

pub lost_passed : (signed : ℤ) (losses : ℕ) → signed ≡ pos losses → losses ≤ most_gains most_nodes
    → to_z w128 (of_z w128 (pos 0 -ℤ to_z w128 (of_z w128 signed))) ≡ pos 0 -ℤ pos losses
lost_passed signed losses is low =
    let short : most_gains most_nodes < 2 ^ 127 = omega arith in
    let one : to_z w128 (of_z w128 signed) ≡ pos losses =
    to_z-of_z w128 signed (within_fits (most_gains most_nodes) signed short (omega (arith, ints, is)) (omega (arith, ints, is, low))) ∙ is in
    rw one (to_z-of_z w128 (pos 0 -ℤ pos losses) (within_fits (most_gains most_nodes) _ short (omega (arith, ints, low)) (omega (arith, ints))))

pub parts_passed : (first free : ℤ) (some gone : ℕ) → first ≡ pos some -ℤ pos gone → AreGains most_nodes free
    → some ≤ most_gains most_nodes → gone ≤ most_gains most_nodes
    → to_z w128 (of_z w128 (to_z w128 (of_z w128 first) +ℤ to_z w128 (of_z w128 free))) ≡ (pos some -ℤ pos gone) +ℤ free
parts_passed first free some gone first_is limit low gone_low =
    let short : 3 * most_gains most_nodes < 2 ^ 127 = omega arith in
    let a : to_z w128 (of_z w128 first) ≡ pos some -ℤ pos gone =
    to_z-of_z w128 first (within_fits (3 * most_gains most_nodes) first short
    (omega (arith, ints, first_is, low, gone_low)) (omega (arith, ints, first_is, low, gone_low))) ∙ first_is in
    let d : to_z w128 (of_z w128 free) ≡ free =
    to_z-of_z w128 free (within_fits (3 * most_gains most_nodes) free short (omega (arith, ints, limit.least)) (omega (arith, ints, limit.most))) in
    rw (a, d) (to_z-of_z w128 ((pos some -ℤ pos gone) +ℤ free) (within_fits (3 * most_gains most_nodes) _ short
    (omega (arith, ints, low, gone_low, limit.least)) (omega (arith, ints, low, gone_low, limit.most))))
