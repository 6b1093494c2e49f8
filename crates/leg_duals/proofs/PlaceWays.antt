-- The prices are lowered to all lengths by a place, whatever is spared.
use Rattle.std.proofs.Common.{◌≡◌, ℕ, ◌+◌, ◌<◌, ◌≤◌, ◌⊎◌, inl, inr, List, length, slice_index, ⊎_elim, refl, sym, subst, arith}
use Rattle.leg_duals.specs.Ways.{WaysFrom, IsHub, stop_count, IsNear, IsWay, IsWayBeside, way}
use Rattle.leg_duals.specs.Lowered.{IsLowered, AreLowered, ReachParts, AreReached, IsSpared}
use Rattle.leg_duals.specs.Duals.{IsPlaceWay, alone, to_hub, from_hub, to_earlier, from_earlier, ArePrices, AreValues}
use Rattle.leg_duals.proofs.SparedWays.{by, spared_near, spared_longer, hub_number, hub_met, reached_by_hub}

-- the prices, lowered by the place alone, with it first and a hub last, with a hub first, and so with earlier places
pub record ArePlaceSteps (w : WaysFrom) (r : ReachParts) (values : ℕ → ℕ → ℕ) (t : ℕ) (prices itself to_hubs from_hubs to_places from_places : ℕ → ℕ) : Type 0 where
  pub one : IsLowered w.size (IsWay w t t) prices itself
  pub hubs_last : AreLowered w.size (length w.hubs) (λ y. IsSpared w r t (length w.order + y)) (λ y. IsWay w t (length w.order + y)) itself to_hubs
  pub hubs_first : AreLowered w.size (length w.hubs) (λ x. IsSpared w r (length w.order + x) t) (λ x. IsWay w (length w.order + x) t) to_hubs from_hubs
  pub places_last : AreLowered w.size t (IsSpared w r t) (λ e. IsWayBeside w (values e) t e) from_hubs to_places
  pub places_first : AreLowered w.size t (λ e. IsSpared w r e t) (λ e. IsWayBeside w (values e) e t) to_places from_places

-- what a place asks is met: the price is within its value and a way to it from a hub or from itself
value_meets : (w : WaysFrom) (prices : List ℕ) (values : ℕ → ℕ → ℕ) (e k j : ℕ) → AreValues w prices values e → IsHub w k ⊎ (k ≡ e) → j < w.size
    → IsNear w k e j → slice_index prices j ≤ way w k e j + values e j
value_meets w prices values e k j are by_what low near =
    let met : are.least j ≤ way w k e j = are.lowered.met j (way w k e j) low (⊎_elim (λ hub. from_hub k hub (near, refl))
    (λ same. subst (λ (x : ℕ). IsNear w x e j → IsPlaceWay w values e j (way w x e j)) (sym same) (λ close. alone (close, refl)) near) by_what) in
    omega (arith, met, are.value j low)

pub lowered_by_place : (w : WaysFrom) (r : ReachParts) (values : ℕ → ℕ → ℕ) (t : ℕ) (prices : List ℕ) (itself to_hubs from_hubs to_places from_places : ℕ → ℕ)
    → AreReached w r → t < length w.order → ArePrices w prices → ((e : ℕ) → e < t → AreValues w prices values e)
    → ArePlaceSteps w r values t (slice_index prices) itself to_hubs from_hubs to_places from_places
    → IsLowered w.size (IsPlaceWay w values t) (slice_index prices) from_places
lowered_by_place w r values t prices itself to_hubs from_hubs to_places from_places reached place are before steps = record {
  below = λ j low. omega (
    arith,
    steps.one.below j low,
    steps.hubs_last.below j low,
    steps.hubs_first.below j low,
    steps.places_last.below j low,
    steps.places_first.below j low,
  );
  met = met;
  is = is;
}
  where
    stop : t < stop_count w
    stop = omega (arith, place)

    earlier_stop : (e : ℕ) → e < t → e < stop_count w
    earlier_stop e early = omega (arith, early, stop)

    -- with the place last
    reached_met : (j : ℕ) → j < w.size → IsNear w (by r t) t j → from_hubs j ≤ way w (by r t) t j
    reached_met j low near = ⊎_elim (λ hub. hub_met w r t to_hubs from_hubs hub steps.hubs_first j low near)
        (λ (same : by r t ≡ t). subst (λ (k : ℕ). IsNear w k t j → from_hubs j ≤ way w k t j) (sym same)
        (λ close. omega (arith, steps.one.met j (way w t t j) low (close, refl), steps.hubs_last.below j low, steps.hubs_first.below j low)) near)
        (reached.each t stop).hub_or_itself

    -- with a hub last
    hub_last : (m j v : ℕ) → j < w.size → IsHub w m → IsWay w t m j v → to_hubs j ≤ v
    hub_last m j v low hub way_is =
        let y = hub_number w m hub in
        subst (λ (x : ℕ). IsWay w t x j v → to_hubs j ≤ v) y.2
        (λ here. ⊎_elim
        (λ spared. (let x = length w.order + y.0 in
        let hub_here = reached_by_hub w r x reached (omega arith, omega (arith, y.1)) in
        let price = are.met j (way w (by r x) x j) low (by r x, x, hub_here, (omega arith, omega (arith, y.1)), (spared_near w r t x j spared here.0, refl)) in
        omega (arith, price, spared_longer w r t x j spared, here.1, steps.one.below j low, steps.hubs_last.below j low)))
        (λ (direct : (i u : ℕ) → i < w.size → IsWay w t (length w.order + y.0) i u → to_hubs i ≤ u). direct j v low here)
        (steps.hubs_last.met y.0 y.1)) way_is

    hub_first : (m j v : ℕ) → j < w.size → IsHub w m → IsWay w m t j v → from_hubs j ≤ v
    hub_first m j v low hub way_is =
        let x = hub_number w m hub in
        subst (λ (k : ℕ). IsWay w k t j v → from_hubs j ≤ v) x.2
        (λ here. ⊎_elim
        (λ spared. (let k = length w.order + x.0 in
        omega (arith, reached_met j low (spared_near w r k t j spared here.0), spared_longer w r k t j spared, here.1)))
        (λ (direct : (i u : ℕ) → i < w.size → IsWay w (length w.order + x.0) t i u → from_hubs i ≤ u). direct j v low here)
        (steps.hubs_first.met x.0 x.1)) way_is

    place_last : (e j v : ℕ) → j < w.size → e < t → IsWayBeside w (values e) t e j v → to_places j ≤ v
    place_last e j v low early way_is = ⊎_elim
        (λ spared. (let price = value_meets w prices values e (by r e) j (before e early) (reached.each e (earlier_stop e early)).hub_or_itself low
        (spared_near w r t e j spared way_is.0) in
        omega (
          arith,
          price,
          spared_longer w r t e j spared,
          way_is.1,
          steps.one.below j low,
          steps.hubs_last.below j low,
          steps.hubs_first.below j low,
          steps.places_last.below j low,
        )))
        (λ (direct : (i u : ℕ) → i < w.size → IsWayBeside w (values e) t e i u → to_places i ≤ u). direct j v low way_is)
        (steps.places_last.met e early)

    place_first : (e j v : ℕ) → j < w.size → e < t → IsWayBeside w (values e) e t j v → from_places j ≤ v
    place_first e j v low early way_is = ⊎_elim
        (λ spared. omega (
          arith,
          reached_met j low (spared_near w r e t j spared way_is.0),
          spared_longer w r e t j spared,
          way_is.1,
          steps.places_last.below j low,
          steps.places_first.below j low,
        ))
        (λ (direct : (i u : ℕ) → i < w.size → IsWayBeside w (values e) e t i u → from_places i ≤ u). direct j v low way_is)
        (steps.places_first.met e early)

    met : (j v : ℕ) → j < w.size → IsPlaceWay w values t j v → from_places j ≤ v
    met j v low (alone way_is) =
        omega (arith, steps.one.met j v low way_is, steps.hubs_last.below j low, steps.hubs_first.below j low, steps.places_last.below j low, steps.places_first.below j low)
    met j v low (to_hub m hub way_is) =
        omega (arith, hub_last m j v low hub way_is, steps.hubs_first.below j low, steps.places_last.below j low, steps.places_first.below j low)
    met j v low (from_hub m hub way_is) =
        omega (arith, hub_first m j v low hub way_is, steps.places_last.below j low, steps.places_first.below j low)
    met j v low (to_earlier e early way_is) = omega (arith, place_last e j v low early way_is, steps.places_first.below j low)
    met j v low (from_earlier e early way_is) = place_first e j v low early way_is

    Is : ℕ → ℕ → Type 0
    Is j v = (v ≡ slice_index prices j) ⊎ IsPlaceWay w values t j v

    hub_stop : (x : ℕ) → x < length w.hubs → IsHub w (length w.order + x)
    hub_stop x below = (omega arith, omega (arith, below))

    -- the same number is the same kind of length
    handed : (j u v : ℕ) → v ≡ u → Is j u → Is j v
    handed j u v same here = subst (Is j) (sym same) here

    is_one : (j : ℕ) → j < w.size → Is j (itself j)
    is_one j low = ⊎_elim inl (λ here. inr (alone here)) (steps.one.is j low)

    is_to_hubs : (j : ℕ) → j < w.size → Is j (to_hubs j)
    is_to_hubs j low = ⊎_elim (λ same. handed j (itself j) (to_hubs j) same (is_one j low))
        (λ some. inr (to_hub (length w.order + some.0) (hub_stop some.0 some.1) some.2)) (steps.hubs_last.is j low)

    is_from_hubs : (j : ℕ) → j < w.size → Is j (from_hubs j)
    is_from_hubs j low = ⊎_elim (λ same. handed j (to_hubs j) (from_hubs j) same (is_to_hubs j low))
        (λ some. inr (from_hub (length w.order + some.0) (hub_stop some.0 some.1) some.2)) (steps.hubs_first.is j low)

    is_to_places : (j : ℕ) → j < w.size → Is j (to_places j)
    is_to_places j low = ⊎_elim (λ same. handed j (from_hubs j) (to_places j) same (is_from_hubs j low))
        (λ some. inr (to_earlier some.0 some.1 some.2)) (steps.places_last.is j low)

    is : (j : ℕ) → j < w.size → Is j (from_places j)
    is j low = ⊎_elim (λ same. handed j (to_places j) (from_places j) same (is_to_places j low))
        (λ some. inr (from_earlier some.0 some.1 some.2)) (steps.places_first.is j low)
