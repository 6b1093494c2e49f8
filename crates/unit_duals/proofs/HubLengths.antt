-- Least lengths by a hub: below each, and one of them.
use Rattle.std.proofs.Common.{◌≡◌, ℕ, ◌+◌, ◌-◌, ◌≤◌, ◌⊎◌, List, slice_index, inl, inr, subst, ⊎_elim, arith}
use Rattle.unit_duals.specs.Lengths.{UnitLegs, IsHub, trunk_leg, last_leg}
use Rattle.unit_duals.specs.LeastValues.{by_one, by_two, IsPrice}
use Rattle.unit_duals.specs.Values.{back_leg, reach_leg, price_by}
use Rattle.unit_duals.proofs.LeastNumbers.{least_of_le_start, least_of_le, least_of_is}

-- what holds of each hub by its number holds of each stop that is a hub
by_number : (l : UnitLegs) (P : ℕ → Type 0) (m : ℕ) → IsHub l m → P (l.count + (m - l.count)) → P m
by_number l P m hub h = (let same : l.count + (m - l.count) ≡ m = omega (arith, hub.0) in subst P same h)

pub back_le_last : (l : UnitLegs) (k j : ℕ) → back_leg l k j ≤ last_leg l k j
unfolding back_leg
back_le_last l k j = least_of_le_start (last_leg l k j) (λ m. trunk_leg l k (l.count + m) + last_leg l (l.count + m) j) l.hubs

pub back_le_by : (l : UnitLegs) (k j m : ℕ) → IsHub l m → back_leg l k j ≤ trunk_leg l k m + last_leg l m j
unfolding back_leg
back_le_by l k j m hub =
    by_number l (λ (s : ℕ). back_leg l k j ≤ trunk_leg l k s + last_leg l s j) m hub
    (least_of_le (last_leg l k j) (λ x. trunk_leg l k (l.count + x) + last_leg l (l.count + x) j) l.hubs (m - l.count) (omega (arith, hub.0, hub.1)))

pub back_is : (l : UnitLegs) (k j : ℕ) → (back_leg l k j ≡ last_leg l k j) ⊎ ((m : ℕ) × IsHub l m × (back_leg l k j ≡ trunk_leg l k m + last_leg l m j))
unfolding back_leg
back_is l k j = ⊎_elim inl
    (λ p. inr (l.count + p.0, (omega arith, omega (arith, p.1)), p.2))
    (least_of_is (last_leg l k j) (λ x. trunk_leg l k (l.count + x) + last_leg l (l.count + x) j) l.hubs)

pub reach_le_by : (l : UnitLegs) (first : List ℕ) (k m : ℕ) → IsHub l m → reach_leg l first k ≤ slice_index first m + trunk_leg l m k
unfolding reach_leg
reach_le_by l first k m hub =
    by_number l (λ (s : ℕ). reach_leg l first k ≤ slice_index first s + trunk_leg l s k) m hub
    (least_of_le (slice_index first k) (λ x. slice_index first (l.count + x) + trunk_leg l (l.count + x) k) l.hubs (m - l.count) (omega (arith, hub.0, hub.1)))

pub reach_is : (l : UnitLegs) (first : List ℕ) (k : ℕ)
    → (reach_leg l first k ≡ slice_index first k) ⊎ ((m : ℕ) × IsHub l m × (reach_leg l first k ≡ slice_index first m + trunk_leg l m k))
unfolding reach_leg
reach_is l first k = ⊎_elim inl
    (λ p. inr (l.count + p.0, (omega arith, omega (arith, p.1)), p.2))
    (least_of_is (slice_index first k) (λ x. slice_index first (l.count + x) + trunk_leg l (l.count + x) k) l.hubs)

-- the price by a first hub
price_le_by : (l : UnitLegs) (first : List ℕ) (j m : ℕ) → IsHub l m → price_by l first j ≤ slice_index first m + back_leg l m j
unfolding price_by
price_le_by l first j m hub =
    by_number l (λ (s : ℕ). price_by l first j ≤ slice_index first s + back_leg l s j) m hub
    (least_of_le (slice_index first l.count + back_leg l l.count j) (λ x. slice_index first (l.count + x) + back_leg l (l.count + x) j)
    l.hubs (m - l.count) (omega (arith, hub.0, hub.1)))

price_is : (l : UnitLegs) (first : List ℕ) (j : ℕ) → 1 ≤ l.hubs
    → (m : ℕ) × IsHub l m × (price_by l first j ≡ slice_index first m + back_leg l m j)
unfolding price_by
price_is l first j some = ⊎_elim
    (λ e. (l.count, (omega arith, omega (arith, some)), e))
    (λ p. (l.count + p.0, (omega arith, omega (arith, p.1)), p.2))
    (least_of_is (slice_index first l.count + back_leg l l.count j) (λ x. slice_index first (l.count + x) + back_leg l (l.count + x) j) l.hubs)

pub price_is_price : (l : UnitLegs) (first : List ℕ) (j : ℕ) → 1 ≤ l.hubs → IsPrice l first j (price_by l first j)
price_is_price l first j some = record {
  one = λ m hub. omega (arith, price_le_by l first j m hub, back_le_last l m j);
  two = λ k m hub other. omega (arith, price_le_by l first j k hub, back_le_by l k j m other);
  is = (let p = price_is l first j some in ⊎_elim
      (λ e. by_one p.0 p.1 (omega (arith, p.2, e)))
      (λ q. by_two p.0 q.0 p.1 q.1 (omega (arith, p.2, q.2)))
      (back_is l p.0 j));
}
