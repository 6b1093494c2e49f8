-- The bound of a branch by one cut alone, and by none.
use Rattle.std.proofs.Common.{◌≡◌, ℕ, ◌-◌, ◌*◌, ◌≤◌, pos, ◌≤ℤ◌, List, [], ◌∷◌, length, get_or, All, Contains, Option, Some, None, refl, sym, ap, ap₂, subst, ◌∙◌, arith}
use Rattle.std.specs.List.{AllZip}
use Rattle.std.specs.Int.{int_min}
use Rattle.std.proofs.lemmas.Int.{ints, clamps}
use Rattle.std.proofs.lemmas.List.Elements.{All-nil, All-cons, All-contains}
use Rattle.hub_spec.specs.Limits.{most_part, most_cost}
use Rattle.hub_spec.specs.Sums.{sum_ints}
use Rattle.hub_spec.specs.Problem.{Problem, IsProblem, fixed_cost}
use Rattle.hub_spec.specs.Cuts.{Cut, load, IsCut}
use Rattle.hub_spec.specs.Trees.{Branching, IsBranch, mixed_total, mixed_gain, bound_by, leaf_bound}
use Rattle.hub_spec.proofs.LeastSums.{least_not_below}
use Rattle.hub_spec.proofs.Mixes.{candidate_is_node}
use Rattle.leaf_bound.specs.declared.weightings.Weighting as lent
use Rattle.leaf_bound.specs.Numbers.{AreWeightingNumbers, IsBranchWithin, weighting_of}
use Rattle.leaf_bound.specs.Theorems.{weight_pairs, AreLoadsOf, IsWeightingOf}
use Rattle.p_hub.specs.Counted.{bound_for}
use Rattle.p_hub.proofs.CountedBounds.{leaf_for}
use Rattle.search_spec.specs.States.{denominator}
use Rattle.search_core.proofs.Weightings.{below_size, candidate_within, branch_within}
use Rattle.ascent_search.specs.SingleCuts.{AreLoads, IsOnCut, IsOnNone, cut_bound}

-- ---- the sums of a cut are within their limits

load_within : (p : Problem) (cut : Cut) (k : ℕ) → IsCut p cut → cut.part ≡ 1 → Contains p.candidates k → load cut k ≤ most_cost
load_within p cut k is whole candidate =
    let limit = All-contains (λ m. load cut m ≤ cut.part * most_cost) p.candidates k is.sums.load_limit candidate in
    omega (arith, limit, ap (λ (e : ℕ). e * most_cost) whole)

pub total_within : (p : Problem) (cut : Cut) (sum : ℕ) (loads : List ℕ) → AreLoads p cut sum loads → sum ≤ most_cost
total_within p cut sum loads are =
    let times = ap (λ (e : ℕ). e * most_cost) are.whole in
    omega (arith, are.is_total, are.is_cut.sums.total_limit, times)

-- ---- numbers

-- the limits of a part
abbrev IsPart : ℕ → Type 0
IsPart part = (1 ≤ part) × (part ≤ most_part)

pub cut_numbers : (p : Problem) (cut : Cut) (m : lent.Weighting) → IsProblem p → IsOnCut p cut m → AreWeightingNumbers m
cut_numbers p cut m ok on =
    let ns = on.lent_of in
    let n = length m.fixed.now in
    let long : n ≡ p.size = ap length on.fixed_are ∙ ok.cost_for_each_node in
    record {
      some_nodes = omega (arith, long, ok.size_limit);
      few_weights = omega (arith, ap length on.weights_are, ap length ns.totals_are);
      are_parts = subst (All IsPart) (sym ns.parts_are)
          (All-cons IsPart 1 [] (omega arith, omega arith) (All-nil IsPart));
      are_totals = rw (ns.parts_are, ns.totals_are) (omega (arith, total_within p cut ns.sum ns.loads ns.are), tt);
      as_many_rows = omega (arith, ap length ns.rows_are, ap length ns.parts_are);
      are_wide = rw ns.rows_are (All-cons (λ (row : List ℕ). length row ≡ n) ns.loads [] (ns.are.long ∙ sym long)
          (All-nil (λ (row : List ℕ). length row ≡ n)));
      are_multiples = rw (on.weights_are, ns.parts_are) (refl, tt);
      weights_limit = rw (on.weights_are, on.denom_is) (omega arith);
      denom_least = omega (arith, on.denom_is);
      denom_most = omega (arith, on.denom_is);
    }

pub none_numbers : (p : Problem) (m : lent.Weighting) → IsProblem p → IsOnNone p m → AreWeightingNumbers m
none_numbers p m ok on = record {
  some_nodes = omega (arith, ap length on.fixed_are, ok.cost_for_each_node, ok.size_limit);
  few_weights = omega (arith, ap length on.weights_are);
  are_parts = subst (All IsPart) (sym on.parts_are) (All-nil IsPart);
  are_totals = rw (on.parts_are, on.totals_are) tt;
  as_many_rows = omega (arith, ap length on.rows_are, ap length on.parts_are);
  are_wide = rw on.rows_are (All-nil (λ (row : List ℕ). length row ≡ length m.fixed.now));
  are_multiples = rw on.weights_are tt;
  weights_limit = rw on.weights_are (omega arith);
  denom_least = omega (arith, on.denom_is);
  denom_most = omega (arith, on.denom_is);
}

pub cut_within : (p : Problem) (cut : Cut) (m : lent.Weighting) (b : Branching) → IsProblem p → IsBranch p b → IsOnCut p cut m
    → IsBranchWithin m b
cut_within p cut m b ok is on =
    let ns = on.lent_of in
    branch_within p m b
    (λ k candidate. candidate_within p m k ok on.fixed_are candidate
    (rw (ns.parts_are, ns.rows_are)
    (omega (arith, ns.are.are_loads k (candidate_is_node p k ok candidate), load_within p cut k ns.are.is_cut ns.are.whole candidate), tt))) is

pub none_within : (p : Problem) (m : lent.Weighting) (b : Branching) → IsProblem p → IsBranch p b → IsOnNone p m → IsBranchWithin m b
none_within p m b ok is on =
    branch_within p m b (λ k candidate. candidate_within p m k ok on.fixed_are candidate (rw (on.parts_are, on.rows_are) tt)) is

-- ---- bounds

fixed_at : (p : Problem) (fixed : List ℕ) (k : ℕ) → fixed ≡ p.fixed_costs → get_or fixed k 0 ≡ fixed_cost p k
unfolding fixed_cost
fixed_at p fixed k same = ap (λ (costs : List ℕ). get_or costs k 0) same

on_cut : (p : Problem) (cut : Cut) (m : lent.Weighting) → IsOnCut p cut m → IsWeightingOf p (cut ∷ []) (weighting_of m)
on_cut p cut m on =
    let ns = on.lent_of in
    record {
      totals = ns.totals_are ∙ ap (λ (x : ℕ). x ∷ []) ns.are.is_total;
      loads = subst (AllZip (AreLoadsOf p) (cut ∷ [])) (sym ns.rows_are) (ns.are.are_loads, tt);
      fixed = λ k node. fixed_at p m.fixed.now k on.fixed_are;
      parts = ns.parts_are ∙ ap (λ (e : ℕ). e ∷ []) (sym ns.are.whole);
      few_weights = omega (arith, ap length on.weights_are);
    }

-- the bound by these weights, as arguments
lent_bound : (p : Problem) (cuts : List Cut) (m : lent.Weighting) (ws : List ℕ) (b : Branching) → IsProblem p
    → IsBranch p b → IsWeightingOf p cuts (weighting_of m) → m.weights.now ≡ ws
    → m.denom ≡ denominator → bound_for p.wanted (weighting_of m) b ≡ leaf_bound p cuts denominator (weight_pairs ws) b
lent_bound p cuts m ws b ok is on weights denom =
    sym (leaf_for p p.wanted cuts (weighting_of m) b refl on (below_size p b ok is))
    ∙ ap₂ (λ (d : ℕ) (xs : List ℕ). leaf_bound p cuts d (weight_pairs xs) b) denom weights

pub cut_bound_is : (p : Problem) (cut : Cut) (m : lent.Weighting) (b : Branching) → IsProblem p
    → IsBranch p b → IsOnCut p cut m → bound_for p.wanted (weighting_of m) b ≡ cut_bound p cut b
cut_bound_is p cut m b ok is on =
    lent_bound p (cut ∷ []) m (denominator ∷ []) b ok is (on_cut p cut m on) on.weights_are on.denom_is

on_none : (p : Problem) (m : lent.Weighting) → IsOnNone p m → IsWeightingOf p [] (weighting_of m)
on_none p m on = record {
  totals = on.totals_are;
  loads = subst (AllZip (AreLoadsOf p) []) (sym on.rows_are) tt;
  fixed = λ k node. fixed_at p m.fixed.now k on.fixed_are;
  parts = on.parts_are;
  few_weights = omega (arith, ap length on.weights_are);
}

pub none_bound_is : (p : Problem) (m : lent.Weighting) (b : Branching) → IsProblem p → IsBranch p b
    → IsOnNone p m
    → bound_for p.wanted (weighting_of m) b ≡ leaf_bound p [] denominator [] b
none_bound_is p m b ok is on = lent_bound p [] m [] b ok is (on_none p m on) on.weights_are on.denom_is

-- ---- the bound by no cut is not below 0

no_gains : (p : Problem) (ks : List ℕ) → pos 0 ≤ℤ sum_ints (mixed_gain p [] denominator []) ks
no_gains p [] = omega (arith, ints)
no_gains p (k ∷ ks) = omega (arith, ints, no_gains p ks)

no_losses : (p : Problem) (ks : List ℕ) → pos 0 ≤ℤ sum_ints (λ k. int_min (pos 0) (mixed_gain p [] denominator [] k)) ks
no_losses p [] = omega (arith, ints)
no_losses p (k ∷ ks) = omega (arith, ints, clamps, no_losses p ks)

bare_by : (p : Problem) (wanted : Option ℕ) (b : Branching)
    → pos 0 ≤ℤ bound_by wanted (mixed_total [] []) (mixed_gain p [] denominator []) b
bare_by p None b = omega (arith, ints, no_gains p b.inside, no_losses p b.free)
bare_by p (Some n) b =
    let g = mixed_gain p [] denominator [] in
    omega (arith, ints, no_gains p b.inside, least_not_below (n - length b.inside) g b.free (λ k. omega (arith, ints)))

pub bare_not_below : (p : Problem) (b : Branching) → pos 0 ≤ℤ leaf_bound p [] denominator [] b
bare_not_below p b = bare_by p p.wanted b
