-- Numbers by node that are worked out for the nodes of an order alone.
use Rattle.std.proofs.Common.{◌≡◌, ◌≢◌, ℕ, ◌+◌, ◌*◌, ◌<◌, ◌⊎◌, inl, inr, List, length, set, slice_index, All, Contains, ⊎_elim, ap, sym, subst, ◌∙◌, arith}
use Rattle.std.proofs.lemmas.Bool.{cases_lt, false≢true}
use Rattle.std.proofs.lemmas.List.{get_or_default, get_or_past, get_or-set_same, get_or-set_other}
use Rattle.std.proofs.lemmas.List.Elements.{All-get_or, Contains-get_or}
use Rattle.hub_spec.specs.Problem.{Problem, flow}
use Rattle.hub_spec.specs.Cuts.{Prices, value_at}
use Rattle.hub_spec.specs.Separation.{IsMinimalDual, minimal_dual}
use Rattle.hub_spec.proofs.Sets.{is_in, is_in-yes, Contains-from_is_in}
use Rattle.hub_spec.proofs.SetCuts.{unlisted_value}
use Rattle.hub_spec.proofs.SumLemmas.{by_test}
use Rattle.unit_duals.specs.Cells.{cell}
use Rattle.leg_duals.proofs.MinimalDuals.{minimal_dual_of}
use Rattle.pareto_cuts.specs.AddedRows.{row_sum, AreRowsAdded}
use Rattle.pareto_cuts.specs.Separations.{SetSeparation, IsSeparation, sum_of, origin_load, origin_total}
use Rattle.pareto_cuts.specs.UnitCosts.{AreDualsFrom}
use Rattle.pareto_cuts.proofs.CommoditySums.{sum_same, sum_zero}

-- ---- one node more

pub rows_more : (order : List ℕ) (t sum k : ℕ) (added : ℕ → ℕ) (old new : List ℕ) → t < length order
    → ((s t : ℕ) → s < t → t < length order → slice_index order s ≢ slice_index order t) → k ≡ slice_index order t → k < length new
    → AreRowsAdded order t added old new → sum ≡ slice_index new k + added t → AreRowsAdded order (t + 1) added old (set new k sum)
rows_more order t sum k added old new below once node within so_far more = record {
  here = λ s less. ⊎_elim (λ before. early s before) (λ last. at_last s (omega (arith, less, last))) (cases_lt s t);
  others = λ m none.
      get_or-set_other new k m sum 0 (λ same. none t (omega arith) (sym node ∙ sym same)) ∙ so_far.others m (λ s less. none s (omega (arith, less)));
}
  where
    fresh : slice_index new k ≡ slice_index old k
    fresh = so_far.others k (λ s less same. once s t less below (same ∙ node))

    early : (s : ℕ) → s < t → slice_index (set new k sum) (slice_index order s) ≡ slice_index old (slice_index order s) + added s
    early s less = get_or-set_other new k (slice_index order s) sum 0 (λ same. once s t less below (same ∙ node)) ∙ so_far.here s less

    at_last : (s : ℕ) → s ≡ t → slice_index (set new k sum) (slice_index order s) ≡ slice_index old (slice_index order s) + added s
    at_last s same =
        let here : slice_index order s ≡ k = ap (slice_index order) same ∙ sym node in
        let value : slice_index (set new k sum) k ≡ slice_index old k + added t = get_or-set_same new k sum 0 within ∙ omega (arith, more, fresh) in
        rw (here, same) value

-- ---- a node of the order, or none

pub in_or_out : (order : List ℕ) (k : ℕ) → ((t : ℕ) × (t < length order) × (slice_index order t ≡ k)) ⊎ (Contains order k → ⊥)
in_or_out order k = by_test (is_in order k)
    (λ yes. inl (at (Contains-from_is_in order k yes)))
    (λ no. inr (λ is. false≢true (sym no ∙ is_in-yes order k is)))
  where
    at : Contains order k → (t : ℕ) × (t < length order) × (slice_index order t ≡ k)
    at (t, below, e) = (t, below, get_or_default order t 0 k below ∙ e)

-- a node outside has no value
pub none_outside : (p : Problem) (hubs order : List ℕ) (c : ℕ × ℕ) (d : Prices) (k : ℕ) → IsMinimalDual p hubs order c d → (Contains order k → ⊥)
    → value_at d.u k ≡ 0
none_outside p hubs order c d k minimal none = unlisted_value order d.u k minimal.in_order none

none_left : (order : List ℕ) (k : ℕ) → (Contains order k → ⊥) → (s : ℕ) → s < length order → slice_index order s ≢ k
none_left order k none s below same = none (subst (Contains order) same (Contains-get_or order s 0 below))

zero_at : (values : List ℕ) (k : ℕ) → All (λ v. v ≡ 0) values → slice_index values k ≡ 0
zero_at values k none = ⊎_elim (λ within. All-get_or (λ v. v ≡ 0) values k 0 within none) (λ past. get_or_past values k 0 past) (cases_lt k (length values))

-- ---- a column is the values of a dual by node

pub column_is : (p : Problem) (hubs order : List ℕ) (c : ℕ × ℕ) (d : Prices) (added : ℕ → ℕ) (old new : List ℕ) → IsMinimalDual p hubs order c d
    → ((t : ℕ) → t < length order → added t ≡ value_at d.u (slice_index order t)) → All (λ v. v ≡ 0) old
    → AreRowsAdded order (length order) added old new → (k : ℕ) → slice_index new k ≡ value_at d.u k
column_is p hubs order c d added old new minimal is none rows k =
    ⊎_elim
    (λ place. let here = rows.here place.0 place.1 in
    let clear = zero_at old (slice_index order place.0) none in
    subst (λ m. slice_index new m ≡ value_at d.u m) place.2 (omega (arith, here, clear, is place.0 place.1)))
    (λ out. rows.others k (none_left order k out) ∙ zero_at old k none ∙ sym (none_outside p hubs order c d k minimal out))
    (in_or_out order k)

-- ---- the loads of an origin

pub minimal_of : (s : SetSeparation) (i j : ℕ) → IsSeparation s → i < s.problem.size → j < s.legs.size
    → IsMinimalDual s.problem s.hubs s.order (i, s.start + j) (minimal_dual s.problem s.hubs s.order (i, s.start + j))
minimal_of s i j is from to =
    minimal_dual_of s.problem s.hubs s.order i (s.start + j) is.problem is.set is.order from (omega (arith, to, is.legs.destinations))

pub loads_added : (s : SetSeparation) (i : ℕ) (flows prices values old new : List ℕ) → IsSeparation s → i < s.problem.size → AreDualsFrom s i prices values
    → length flows ≡ s.legs.size → ((j : ℕ) → j < s.legs.size → slice_index flows j ≡ flow s.problem i (s.start + j))
    → AreRowsAdded s.order (length s.order) (row_sum flows values) old new
    → (k : ℕ) → slice_index new k ≡ slice_index old k + origin_load s.problem s.hubs s.order i s.start s.legs.size k
loads_added s i flows prices values old new is from duals long are rows k =
    ⊎_elim
    (λ place. subst (λ m. slice_index new m ≡ slice_index old m + origin_load s.problem s.hubs s.order i s.start s.legs.size m) place.2
    (rows.here place.0 place.1 ∙ ap (λ z. slice_index old (slice_index s.order place.0) + z) (row place.0 place.1)))
    (λ out. let none = sum_zero s.legs.size (λ j. value_at (minimal_dual s.problem s.hubs s.order (i, s.start + j)).u k)
    (λ j below. none_outside s.problem s.hubs s.order (i, s.start + j) _ k (minimal_of s i j is from below) out) in
    omega (arith, rows.others k (none_left s.order k out), none))
    (in_or_out s.order k)
  where
    row : (t : ℕ) → t < length s.order → row_sum flows values t ≡ origin_load s.problem s.hubs s.order i s.start s.legs.size (slice_index s.order t)
    row t within =
        ap (λ n. sum_of n (λ j. slice_index flows j * cell n values t j)) long
        ∙ sum_same s.legs.size _ _
        (λ j below. ap (λ w. w * cell s.legs.size values t j) (are j below) ∙ duals.value t j within below)

pub total_is : (s : SetSeparation) (i : ℕ) (flows prices values : List ℕ) → AreDualsFrom s i prices values
    → length flows ≡ s.legs.size → ((j : ℕ) → j < s.legs.size → slice_index flows j ≡ flow s.problem i (s.start + j))
    → sum_of (length flows) (λ j. slice_index flows j * slice_index prices j) ≡ origin_total s.problem s.hubs s.order i s.start s.legs.size
total_is s i flows prices values duals long are =
    ap (λ n. sum_of n (λ j. slice_index flows j * slice_index prices j)) long
    ∙ sum_same s.legs.size _ _ (λ j below. ap (λ w. w * slice_index prices j) (are j below) ∙ duals.price j below)
