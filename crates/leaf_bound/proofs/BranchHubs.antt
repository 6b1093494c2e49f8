-- The plans of a branch: their hubs by the branch's nodes, and weights that are shares.
use Rattle.std.proofs.Common.{◌≡◌, ℕ, ℤ, pos, ◌+ℤ◌, ◌<◌, cond, List, [], ◌∷◌, filter, All, Contains, ⊎_elim, refl, sym, ap₂, subst, arith}
use Rattle.std.proofs.lemmas.Int.{ints}
use Rattle.std.proofs.lemmas.List.Elements.{All-contains, All-weaker}
use Rattle.hub_spec.specs.Sums.{sum_ints}
use Rattle.hub_spec.specs.Problem.{Problem, IsProblem}
use Rattle.hub_spec.specs.Plans.{Plan}
use Rattle.hub_spec.specs.Cuts.{Cut}
use Rattle.hub_spec.specs.Trees.{Branching, IsBranch, IsMix}
use Rattle.hub_spec.proofs.SumLemmas.{sum_ints-filter}
use Rattle.hub_spec.proofs.Sets.{Contains-head, Contains-later, is_in, is_in-yes, is_in-no, part_is_filter}
use Rattle.hub_spec.proofs.WeakDuality.{Agrees}
use Rattle.leaf_bound.specs.Bounds.{Weighting, AreMultiples}
use Rattle.leaf_bound.specs.Numbers.{IsBranchBelow}
use Rattle.leaf_bound.specs.Theorems.{weight_pairs, IsWeightingOf}
use Rattle.leaf_bound.proofs.LeafWeights.{pairs_mix}
use Rattle.leaf_bound.specs.Shares.{AreShares, KeepsTo}

-- ---- sums over the candidates of a branch

sum_ints-agree : (f g : ℕ → ℤ) (ks : List ℕ) → ((k : ℕ) → Contains ks k → f k ≡ g k) → sum_ints f ks ≡ sum_ints g ks
sum_ints-agree f g [] same = refl
sum_ints-agree f g (k ∷ ks) same =
    ap₂ (λ (x y : ℤ). x +ℤ y) (same k (Contains-head k ks)) (sum_ints-agree f g ks (λ m c. same m (Contains-later k ks m c)))

sum_ints-plus : (f g : ℕ → ℤ) (ks : List ℕ) → sum_ints (λ k. f k +ℤ g k) ks ≡ sum_ints f ks +ℤ sum_ints g ks
sum_ints-plus f g [] = refl
sum_ints-plus f g (k ∷ ks) = omega (arith, ints, sum_ints-plus f g ks)

-- the sum over a part of the candidates is one over all
part_sum : (f : ℕ → ℤ) (p : Problem) (part : List ℕ) → filter (is_in part) p.candidates ≡ part
    → sum_ints (λ k. cond (is_in part k) (f k) (pos 0)) p.candidates ≡ sum_ints f part
part_sum f p part is = subst (λ (ks : List ℕ). sum_ints (λ k. cond (is_in part k) (f k) (pos 0)) p.candidates ≡ sum_ints f ks) is
    (sym (sum_ints-filter f (is_in part) p.candidates))

-- the plan's hubs are the branch's nodes inside and those of its free ones that the plan has
pub hubs_agree : (p : Problem) (b : Branching) (plan : Plan) → IsProblem p → IsBranch p b → KeepsTo plan b → Agrees p.candidates (is_in plan.hubs) b
hubs_agree p b plan ok branch keeps = record {
  same_sum = λ g. same g;
  none_outside = λ k out. is_in-no plan.hubs k (All-contains (λ (m : ℕ). Contains plan.hubs m → ⊥) b.outside k keeps.outside out);
}
  where
    at : (g : ℕ → ℤ) (k : ℕ) → Contains p.candidates k → cond (is_in plan.hubs k) (g k) (pos 0)
        ≡ cond (is_in b.inside k) (g k) (pos 0) +ℤ cond (is_in b.free k) (cond (is_in plan.hubs k) (g k) (pos 0)) (pos 0)
    at g k candidate =
        ⊎_elim
        (λ inside. let hub = is_in-yes plan.hubs k (All-contains (Contains plan.hubs) b.inside k keeps.inside inside) in
        let here = is_in-yes b.inside k inside in
        let gone = is_in-no b.free k (λ free. branch.inside_apart k free inside) in
        rw (hub, here, gone) (omega (arith, ints)))
        (⊎_elim
        (λ outside. let hub = is_in-no plan.hubs k (All-contains (λ (m : ℕ). Contains plan.hubs m → ⊥) b.outside k keeps.outside outside) in
        let here = is_in-no b.inside k (λ inside. branch.not_both k inside outside) in
        let gone = is_in-no b.free k (λ free. branch.outside_apart k free outside) in
        rw (hub, here, gone) refl)
        (λ free. let here = is_in-no b.inside k (λ inside. branch.inside_apart k free inside) in
        let there = is_in-yes b.free k free in
        rw (here, there) (omega (arith, ints))))
        (branch.all k candidate)

    same : (g : ℕ → ℤ) → sum_ints g (filter (is_in plan.hubs) p.candidates)
        ≡ sum_ints g b.inside +ℤ sum_ints g (filter (is_in plan.hubs) b.free)
    same g =
        let f = λ (k : ℕ). cond (is_in plan.hubs k) (g k) (pos 0) in
        let whole = sum_ints-filter g (is_in plan.hubs) p.candidates in
        let split = sum_ints-agree f (λ k. cond (is_in b.inside k) (g k) (pos 0) +ℤ cond (is_in b.free k) (f k) (pos 0)) p.candidates (at g) in
        let two = sum_ints-plus (λ k. cond (is_in b.inside k) (g k) (pos 0)) (λ k. cond (is_in b.free k) (f k) (pos 0)) p.candidates in
        let inside = part_sum g p b.inside (part_is_filter p.candidates b.inside ok.candidates_ascend branch.inside_ascends branch.inside_are) in
        let free = part_sum f p b.free (part_is_filter p.candidates b.free ok.candidates_ascend branch.free_ascends branch.free_are) in
        let rest = sum_ints-filter g (is_in plan.hubs) b.free in
        omega (arith, ints, whole, split, two, inside, free, rest)

-- ---- plans of a branch that closes

pub branch_below : (p : Problem) (b : Branching) → IsProblem p → IsBranch p b → IsBranchBelow p.size b
branch_below p b ok branch =
    let below = λ (ks : List ℕ) (are : All (Contains p.candidates) ks). All-weaker (Contains p.candidates) (λ (k : ℕ). k < p.size)
    (λ k c. All-contains (λ (m : ℕ). m < p.size) p.candidates k ok.candidates_are_nodes c) ks are in
    record { inside = below b.inside branch.inside_are; outside = below b.outside branch.outside_are; free = below b.free branch.free_are }

-- weights that are shares are a mix of the cuts
pub shares_mix : (p : Problem) (cuts : List Cut) (m : Weighting) → IsWeightingOf p cuts m → AreShares m
    → IsMix cuts m.denom (weight_pairs m.weights)
shares_mix p cuts m made shares =
    let multiples = subst (AreMultiples m.weights) made.parts shares.multiples in
    let leaf = pairs_mix cuts m.denom m.weights multiples made.few_weights shares.denom_least shares.denom_most shares.weights_limit in
    leaf.mix
