-- The bound that a node's weights give is the bound in the search's state.
use Rattle.std.proofs.Common.{◌≡◌, ℕ, ◌*◌, ◌≤◌, ℤ, pos, ◌-ℤ◌, List, length, get_or, All, Bool, Option, if◌then◌else◌, int_lt, sym, ap, ap₂, subst, ◌∙◌, arith}
use Rattle.std.specs.List.{AllZip}
use Rattle.std.proofs.lemmas.List.{length-map}
use Rattle.hub_spec.specs.Limits.{most_part}
use Rattle.hub_spec.specs.Problem.{Problem, fixed_cost}
use Rattle.hub_spec.specs.Trees.{Branching, leaf_bound, IsBranch}
use Rattle.leaf_bound.specs.declared.weightings.Weighting as lent
use Rattle.leaf_bound.specs.Numbers.{AreWeightingNumbers, IsBranchWithin, weighting_of}
use Rattle.leaf_bound.specs.Theorems.{AreLoadsOf, IsWeightingOf}
use Rattle.search_spec.specs.States.{State, denominator}
use Rattle.search_spec.specs.Steps.{bound_at, closes_at, better, fixings}
use Rattle.p_hub.specs.Counted.{bound_for}
use Rattle.p_hub.proofs.CountedBounds.{leaf_for}
use Rattle.cut_pool.specs.Entries.{Entry, entry_part}
use Rattle.search_core.proofs.Weightings.{below_size, candidate_within, branch_within}
use Rattle.search_steps.specs.Pools.{entry_cut, pool_cuts, state_by, InEachState, InEachStateAt}
use Rattle.search_steps.specs.declared.weightings.NodeWeights.{NodeWeights}
use Rattle.search_steps.specs.Weights.{IsLentBy, pairs_of, sides_as}
use Rattle.search_steps.proofs.PoolNumbers.{totals_sums, loads_sums, rows_long, parts_least, parts_are, totals_are, loads_zip}
use Rattle.search_steps.proofs.Sides.{sides_by, sides_are}

pub weighting_numbers : (n : NodeWeights) (m : lent.Weighting) → IsLentBy n m → AreWeightingNumbers m
weighting_numbers n m lent =
    let p = n.instance.now in
    let entries = n.pool.now.entries in
    let ok = lent.problem in
    let pool = lent.weighed.pool in
    let weights = lent.weighed.weights in
    let nodes = length m.fixed.now in
    let size : nodes ≡ p.size = ap length lent.are_fixed ∙ ok.cost_for_each_node in
    let many : length m.totals.now ≡ length entries = ap length lent.are_totals ∙ length-map entries (λ (e : Entry). e.total) in
    let few : length m.weights.now ≤ length entries = omega (arith, ap length lent.are_weights, weights.few) in
    record {
      some_nodes = omega (arith, size, ok.size_limit);
      few_weights = omega (arith, many, few);
      are_parts = subst (All (λ (part : ℕ). (1 ≤ part) × (part ≤ most_part))) (sym lent.are_parts) (parts_least p entries ok pool);
      are_totals = rw (lent.are_parts, lent.are_totals) (totals_sums p entries ok pool);
      as_many_rows = omega (
        arith,
        ap length lent.are_loads,
        ap length lent.are_parts,
        length-map entries (λ (e : Entry). e.loads),
        length-map entries entry_part,
      );
      are_wide = rw lent.are_loads (rows_long p entries nodes pool size);
      are_multiples = rw (lent.are_weights, lent.are_parts) weights.multiples;
      weights_limit = rw (lent.are_weights, lent.is_denom) weights.most;
      denom_least = omega (arith, lent.is_denom);
      denom_most = omega (arith, lent.is_denom);
    }

pub weighted_within : (n : NodeWeights) (m : lent.Weighting) (b : Branching) → IsLentBy n m → IsBranch n.instance.now b → IsBranchWithin m b
weighted_within n m b lent is =
    let p = n.instance.now in
    branch_within p m b
    (λ k candidate. candidate_within p m k lent.problem lent.are_fixed candidate
    (rw (lent.are_parts, lent.are_loads) (loads_sums p n.pool.now.entries k lent.problem lent.weighed.pool candidate))) is

weighting_is : (n : NodeWeights) (m : lent.Weighting) → IsLentBy n m
    → IsWeightingOf n.instance.now (pool_cuts n.instance.now n.pool.now.entries) (weighting_of m)
unfolding fixed_cost
weighting_is n m lent =
    let p = n.instance.now in
    let entries = n.pool.now.entries in
    record {
      totals = lent.are_totals ∙ totals_are p entries lent.weighed.pool;
      loads = subst (AllZip (AreLoadsOf p) (pool_cuts p entries)) (sym lent.are_loads) (loads_zip p entries lent.weighed.pool);
      fixed = λ k node. ap (λ (costs : List ℕ). get_or costs k 0) lent.are_fixed;
      parts = lent.are_parts ∙ parts_are p entries lent.weighed.pool;
      few_weights = omega (arith, ap length lent.are_weights, length-map entries (entry_cut p), lent.weighed.weights.few);
    }

-- the bound with the weighting's numbers is that in each state with these entries. It is by the wanted
-- number of hubs, if there is one
pub lent_for : (wanted : Option ℕ) (n : NodeWeights) (m : lent.Weighting) (b : Branching) → n.instance.now.wanted ≡ wanted → IsLentBy n m
    → IsBranch n.instance.now b → let p = n.instance.now in
    InEachState p n.pool.now.entries (λ s. bound_for wanted (weighting_of m) b ≡ bound_at p s b (pairs_of n.weights.now))
unfolding bound_at
lent_for wanted n m b same lent is hubs cost made stop =
    let p = n.instance.now in
    let cuts = pool_cuts p n.pool.now.entries in
    sym (leaf_for p wanted cuts (weighting_of m) b same (weighting_is n m lent) (below_size p b lent.problem is))
    ∙ ap₂ (λ (d : ℕ) (ws : List ℕ). leaf_bound p cuts d (pairs_of ws) b) lent.is_denom lent.are_weights

-- the test of the bound against the cost
abbrev pub closes_for : Option ℕ → lent.Weighting → ℕ → Branching → Bool
closes_for wanted m cost b = int_lt (pos (m.denom * cost) -ℤ pos m.denom) (bound_for wanted (weighting_of m) b)

pub lent_closes : (wanted : Option ℕ) (n : NodeWeights) (m : lent.Weighting) (b : Branching) (cost : ℕ) → n.instance.now.wanted ≡ wanted
    → IsLentBy n m → IsBranch n.instance.now b → let p = n.instance.now in
    InEachStateAt p n.pool.now.entries cost (λ s. closes_for wanted m cost b ≡ closes_at p s b (pairs_of n.weights.now))
unfolding closes_at
lent_closes wanted n m b cost same lent is hubs made stop =
    ap₂ (λ (d : ℕ) (y : ℤ). int_lt (pos (d * cost) -ℤ pos d) y) lent.is_denom (lent_for wanted n m b same lent is hubs cost made stop)

-- and so the sides of the free nodes
pub lent_sides : (wanted : Option ℕ) (n : NodeWeights) (m : lent.Weighting) (b : Branching) (cost : ℕ) → n.instance.now.wanted ≡ wanted
    → IsLentBy n m → IsBranch n.instance.now b → let p = n.instance.now in
    InEachStateAt p n.pool.now.entries cost (λ s. sides_as (sides_by (closes_for wanted m cost) b) ≡ fixings p s b (pairs_of n.weights.now))
lent_sides wanted n m b cost same lent is hubs made stop =
    sides_are n.instance.now (state_by n.instance.now n.pool.now.entries hubs cost made stop) b (pairs_of n.weights.now) (closes_for wanted m cost) is
    (λ child is_child. lent_closes wanted n m child cost same lent is_child hubs made stop)

-- the test of a bound against what it has to be above
pub closes_by_bound : (p : Problem) (s : State) (b : Branching) (w : List (ℕ × ℕ)) (x y : ℤ) → x ≡ (pos (denominator * s.cost) -ℤ pos denominator)
    → y ≡ bound_at p s b w → int_lt x y ≡ closes_at p s b w
unfolding closes_at
closes_by_bound p s b w x y is_x is_y = ap₂ (λ (u v : ℤ). int_lt u v) is_x is_y

-- the choice between two lists of weights by their bounds
pub better_by : (p : Problem) (s : State) (b : Branching) (w advised : List (ℕ × ℕ)) (x y : ℤ) → x ≡ bound_at p s b w → y ≡ bound_at p s b advised
    → better p s b w advised ≡ (if int_lt x y then advised else w)
unfolding better
better_by p s b w advised x y is_x is_y =
    ap₂ (λ (u v : ℤ). if int_lt u v then advised else w) (sym is_x) (sym is_y)
