-- The first of the shortest routes by hubs.
use Rattle.std.proofs.Common.{◌≡◌, ℕ, ◌+◌, ◌-◌, ◌*◌, ◌<◌, ◌≤◌, List, slice_index, subst, ⊎_elim, arith}
use Rattle.unit_duals.specs.Limits.{most_leg}
use Rattle.unit_duals.specs.Lengths.{UnitLegs, AreLegs, IsHub, way}
use Rattle.unit_duals.specs.Leasts.{least_of, IsFirstLeast}
use Rattle.unit_duals.specs.Hops.{hop_by, least_hop, IsFirstRoute}
use Rattle.unit_duals.proofs.LeastNumbers.{least_of_le_start, least_of_le, least_of_is}
use Rattle.unit_duals.proofs.LegRows.{trunk_leg_limit, last_leg_limit}

-- the number at the first of the least is the least
pub first_least_is : (f : ℕ → ℕ) (k x : ℕ) → IsFirstLeast f k x → f x ≡ least_of (f 0) f k
first_least_is f k x best = ⊎_elim
    (λ e. (let least = best.least 0 (omega (arith, best.within)) in omega (arith, e, least, least_of_le (f 0) f k x best.within)))
    (λ p. (let least = best.least p.0 p.1 in omega (arith, p.2, least, least_of_le (f 0) f k x best.within)))
    (least_of_is (f 0) f k)

pub least_hop_limit : (l : UnitLegs) (x j : ℕ) → AreLegs l → x < l.hubs → j < l.size → least_hop l x j ≤ 2 * most_leg
least_hop_limit l x j legs hub column =
    omega (
      arith,
      least_of_le_start (hop_by l x j 0) (hop_by l x j) l.hubs,
      trunk_leg_limit l (l.count + x) (l.count + 0) legs (omega (arith, hub)) (omega (arith, hub)),
      last_leg_limit l (l.count + 0) j legs (omega (arith, hub)) column,
    )

-- the length from the origin by the hub number x and the best last hub
abbrev pub route_by : UnitLegs → List ℕ → ℕ → ℕ → ℕ
route_by l first j x = slice_index first (l.count + x) + least_hop l x j

-- it is that of the way by both
pub route_is : (l : UnitLegs) (first : List ℕ) (j b y : ℕ) → IsFirstLeast (hop_by l b j) l.hubs y
    → route_by l first j b ≡ way l first (l.count + b) (l.count + y) j
route_is l first j b y last = omega (arith, first_least_is (hop_by l b j) l.hubs y last)

-- no way by hubs is shorter than the best by its first hub
route_le : (l : UnitLegs) (first : List ℕ) (j x y : ℕ) → IsHub l x → IsHub l y → route_by l first j (x - l.count) ≤ way l first x y j
route_le l first j x y hub other =
    let same : l.count + (x - l.count) ≡ x = omega (arith, hub.0) in
    let same_last : l.count + (y - l.count) ≡ y = omega (arith, other.0) in
    let least = least_of_le (hop_by l (x - l.count) j 0) (hop_by l (x - l.count) j) l.hubs (y - l.count) (omega (arith, other.0, other.1)) in
    let this : route_by l first j (x - l.count) ≤ way l first (l.count + (x - l.count)) (l.count + (y - l.count)) j = omega (arith, least) in
    subst (λ (m : ℕ). route_by l first j (x - l.count) ≤ way l first x m j) same_last
    (subst (λ (k : ℕ). route_by l first j (x - l.count) ≤ way l first k (l.count + (y - l.count)) j) same this)

pub first_route : (l : UnitLegs) (first : List ℕ) (j b y : ℕ) → IsFirstLeast (route_by l first j) l.hubs b → IsFirstLeast (hop_by l b j) l.hubs y
    → IsFirstRoute l first j (l.count + b) (l.count + y)
first_route l first j b y best last = record {
  first_is_hub = (omega arith, omega (arith, best.within));
  last_is_hub = (omega arith, omega (arith, last.within));
  least = λ k m hub other. (let h = best.least (k - l.count) (omega (arith, hub.0, hub.1)) in
      omega (arith, h, route_is l first j b y last, route_le l first j k m hub other));
  first_hub = λ k m hub other before. (let h = best.first (k - l.count) (omega (arith, before, hub.0)) in
      omega (arith, h, route_is l first j b y last, route_le l first j k m hub other));
  last_hub = λ m other before. (let h = last.first (m - l.count) (omega (arith, before, other.0)) in
      let same : l.count + (m - l.count) ≡ m = omega (arith, other.0) in
      subst (λ (s : ℕ). way l first (l.count + b) (l.count + y) j < way l first (l.count + b) s j) same (omega (arith, h)));
}
