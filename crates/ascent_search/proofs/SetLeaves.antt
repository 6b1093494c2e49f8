-- The leaf of a branch in which one hub set is left: the Benders cut from the set fathoms at the set's cost.
use Rattle.std.proofs.Common.{◌≡◌, ℕ, zero, suc, ◌+◌, ◌<◌, ◌≤◌, List, [], ◌∷◌, ◌++◌, length, take, slice_index, refl, sym, ap, subst, ◌∙◌, mul-le-mul_left, arith}
use Rattle.hub_spec.specs.Problem.{Problem, IsProblem, opening_cost}
use Rattle.hub_spec.specs.Plans.{IsHubSet, IsSetCost}
use Rattle.hub_spec.specs.Cuts.{total, load}
use Rattle.hub_spec.specs.Separation.{IsOrder, set_cut}
use Rattle.hub_spec.specs.Trees.{Branching, IsBranch, HasRoom}
use Rattle.search_spec.specs.Laws.{Reaches}
use Rattle.search_spec.proofs.SetCosts.{set_cut_serves, set_cost_by_sums}
use Rattle.search_spec.proofs.Separated.{serves_reaches}
use Rattle.cut_model.specs.ValueRows.{ValueRows, value_cut}
use Rattle.cut_model.proofs.ValueCuts.{cut_is}
use Rattle.cut_pool.specs.Kept.{by_values, by_set}
use Rattle.ascent_search.specs.declared.leaves.OrderedSet.{OrderedSet}
use Rattle.ascent_search.specs.Ends.{IsLastSet}
use Rattle.ascent_search.specs.SingleCuts.{AreLoads, ClosesBy, IsOrderedSet}
use Rattle.ascent_search.proofs.BranchEnds.{last_closes}
use Rattle.ascent_search.proofs.KeptSums.{kept_whole}

-- the Benders cut from the one set that is left fathoms at each cutoff that is not above the set's cost
pub last_set_closes : (p : Problem) (b : Branching) (set : List ℕ) (ordered : OrderedSet) (cost target : ℕ) → IsProblem p → IsBranch p b
    → HasRoom p.wanted b → IsLastSet p b set → IsOrderedSet p set ordered → IsSetCost p set cost → target ≤ cost
    → ClosesBy p (set_cut p ordered.set ordered.order.items) target b
last_set_closes p b set ordered cost target ok branch room last is is_cost less =
    let hubs = ordered.set in
    let cut = set_cut p hubs ordered.order.items in
    let of_hubs : IsSetCost p hubs cost = subst (λ (hs : List ℕ). IsSetCost p hs cost) (sym is.hubs) is_cost in
    let reaches = serves_reaches p hubs cut cost (set_cut_serves p hubs ordered.order.items ok is.is_set is.is_order) of_hubs in
    let lower : Reaches p target hubs cut = record {
      whole = reaches.whole;
      says = omega (arith, mul-le-mul_left cut.part less, reaches.says);
    } in
    last_closes p b set (cut ∷ []) 1 target ok branch room last.only (record {
      least = omega arith;
      most = omega arith;
      reaches = subst (λ (hs : List ℕ). Reaches p target hs cut) is.hubs lower;
    })

-- the set costs the total of its cut, and what its hubs cost
cost_by_sums : (p : Problem) (hubs order : List ℕ) (sum : ℕ) → IsProblem p → IsHubSet p hubs → IsOrder p hubs order
    → sum ≡ total (set_cut p hubs order) → IsSetCost p hubs (sum + opening_cost p hubs)
cost_by_sums p hubs order sum ok set is_order is_sum =
    let by = set_cost_by_sums p hubs order ok set is_order in subst (IsSetCost p hubs) (by.by_sums ∙ omega (arith, is_sum)) by.is_cost

-- the same of an ordered set, by the sums in a workspace
pub ordered_cost : (p q : Problem) (set : List ℕ) (ordered : OrderedSet) (order loads : List ℕ) (sum : ℕ) → q ≡ p → order ≡ ordered.order.items
    → IsProblem p → IsOrderedSet p set ordered → AreLoads q (set_cut q ordered.set order) sum loads
    → IsSetCost p ordered.set (sum + opening_cost p ordered.set)
ordered_cost p q set ordered order loads sum same same_order ok is are =
    cost_by_sums p ordered.set ordered.order.items sum ok is.is_set is.is_order
    (are.is_total ∙ ap (λ (o : List ℕ). total (set_cut q ordered.set o)) same_order
    ∙ ap (λ (x : Problem). total (set_cut x ordered.set ordered.order.items)) same)

-- ---- the sums as they are worked out

pub taken : (n : ℕ) (xs ys : List ℕ) → length xs ≡ n → take n (xs ++ ys) ≡ xs
taken zero [] ys long = refl
taken zero (x ∷ xs) ys long = absurd (omega (arith, long))
taken (suc n) [] ys long = absurd (omega (arith, long))
taken (suc n) (x ∷ xs) ys long = ap (λ (zs : List ℕ). x ∷ zs) (taken n xs ys (omega (arith, long)))

pub set_loads : (p q : Problem) (hubs order loads : List ℕ) (sum : ℕ) → q ≡ p → IsProblem p → IsHubSet p hubs → IsOrder p hubs order
    → sum ≡ total (set_cut q hubs order) → length loads ≡ q.size
    → ((k : ℕ) → k < q.size → slice_index loads k ≡ load (set_cut q hubs order) k) → AreLoads p (set_cut p hubs order) sum loads
set_loads p q hubs order loads sum same ok set is_order is_total long are = record {
  is_cut = (set_cut_serves p hubs order ok set is_order).is_cut;
  whole = kept_whole p (by_set hubs order) tt;
  is_total = subst (λ (x : Problem). sum ≡ total (set_cut x hubs order)) same is_total;
  long = long ∙ ap (λ (x : Problem). x.size) same;
  are_loads = subst (λ (x : Problem). (k : ℕ) → k < x.size → slice_index loads k ≡ load (set_cut x hubs order) k) same are;
}

pub value_loads : (p : Problem) (w : ValueRows) (loads : List ℕ) (sum : ℕ) → IsProblem p
    → sum ≡ total (value_cut p w) → length loads ≡ p.size
    → ((k : ℕ) → k < p.size → slice_index loads k ≡ load (value_cut p w) k) → AreLoads p (value_cut p w) sum loads
value_loads p w loads sum ok is_total long are =
    let whole = kept_whole p (by_values w) tt in
    record { is_cut = cut_is p w ok; whole = whole; is_total = is_total; long = long; are_loads = are }
