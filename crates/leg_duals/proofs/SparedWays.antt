-- What is spared is no better than the way by which a stop is reached.
use Rattle.std.proofs.Common.{◌≡◌, ℕ, ◌+◌, ◌-◌, ◌<◌, ◌≤◌, length, slice_index, ⊎_elim, refl, sym, subst, arith}
use Rattle.leg_duals.specs.Ways.{WaysFrom, IsHub, IsNear, IsWay, way}
use Rattle.leg_duals.specs.Lowered.{IsLowered, AnyOf, AreLowered, ReachParts, AreReached, IsSpared}
use Rattle.leg_duals.proofs.LoweredSets.{lowered_all}

-- the stop by which m is reached
abbrev pub by : ReachParts → ℕ → ℕ
by r m = slice_index r.by m

-- where a way is spared, the way by which its last stop is reached is near too, and no longer
pub spared_near : (w : WaysFrom) (r : ReachParts) (k m j : ℕ) → IsSpared w r k m → IsNear w k m j → IsNear w (by r m) m j
spared_near w r k m j spared near = omega (arith, spared.nearer, near)

pub spared_longer : (w : WaysFrom) (r : ReachParts) (k m j : ℕ) → IsSpared w r k m → way w (by r m) m j ≤ way w k m j
spared_longer w r k m j spared = omega (arith, spared.shorter)

-- a hub by its number
pub hub_number : (w : WaysFrom) (k : ℕ) → IsHub w k → (x : ℕ) × (x < length w.hubs) × (length w.order + x ≡ k)
hub_number w k hub = (k - length w.order, omega (arith, hub.0, hub.1), omega (arith, hub.0))

-- the way by which a stop is reached is not spared
pub hub_met : (w : WaysFrom) (r : ReachParts) (m : ℕ) (old new : ℕ → ℕ) → IsHub w (by r m)
    → AreLowered w.size (length w.hubs) (λ x. IsSpared w r (length w.order + x) m) (λ x. IsWay w (length w.order + x) m) old new
    → (j : ℕ) → j < w.size → IsNear w (by r m) m j → new j ≤ way w (by r m) m j
hub_met w r m old new hub lowered j low near =
    let x = hub_number w (by r m) hub in
    ⊎_elim (λ spared. absurd (spared.apart (sym x.2)))
    (λ (met : (j v : ℕ) → j < w.size → IsWay w (length w.order + x.0) m j v → new j ≤ v).
    subst (λ (k : ℕ). IsNear w k m j → new j ≤ way w k m j) x.2 (λ close. met j (way w (length w.order + x.0) m j) low (close, refl)) near)
    (lowered.met x.0 x.1)

-- a hub is reached by a hub
pub reached_by_hub : (w : WaysFrom) (r : ReachParts) (m : ℕ) → AreReached w r → IsHub w m → IsHub w (by r m)
reached_by_hub w r m reached hub = ⊎_elim (λ is. is) (λ same. subst (IsHub w) (sym same) hub) (reached.each m hub.1).hub_or_itself

-- the numbers are lowered to all ways by hubs with the last hub m
pub lowered_to_hub : (w : WaysFrom) (r : ReachParts) (m : ℕ) (old new : ℕ → ℕ) → AreReached w r → IsHub w m
    → AreLowered w.size (length w.hubs) (λ x. IsSpared w r (length w.order + x) m) (λ x. IsWay w (length w.order + x) m) old new
    → IsLowered w.size (AnyOf (length w.hubs) (λ x. IsWay w (length w.order + x) m)) old new
lowered_to_hub w r m old new reached hub lowered =
    lowered_all w.size (length w.hubs) _ _ old new lowered
    (λ x j v below spared low is. (let k = length w.order + x in
    let met = hub_met w r m old new (reached_by_hub w r m reached hub) lowered j low (spared_near w r k m j spared is.0) in
    omega (arith, met, spared_longer w r k m j spared, is.1)))
