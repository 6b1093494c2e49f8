-- The legs of ways.
use Rattle.std.proofs.Common.{◌≡◌, ℕ, ◌+◌, ◌*◌, ◌<◌, ◌≤◌, List, length, slice_index, All, sym, subst, ap, ap₂, ◌∙◌, arith}
use Rattle.std.proofs.lemmas.Nat.{mul-add-lt}
use Rattle.hub_spec.specs.Limits.{most_distance}
use Rattle.hub_spec.specs.Problem.{Problem, distance}
use Rattle.hub_spec.proofs.Limits.{hubs_are_nodes}
use Rattle.hub_model.proofs.Turns.{order_nodes}
use Rattle.unit_duals.specs.Limits.{most_leg}
use Rattle.unit_duals.specs.Lengths.{stops}
use Rattle.unit_duals.proofs.TableCells.{row_within}
use Rattle.leg_duals.specs.StopLegs.{stop_node}
use Rattle.leg_duals.proofs.StopNodes.{stop_is_node}
use Rattle.leg_duals.specs.Ways.{WaysFrom, node_of, stop_count, base, delivery, rest}
use Rattle.leg_duals.specs.Parts.{AreWays, held_ways, AreWayParts}
use Rattle.leg_duals.specs.declared.ways.Ways.TheInside.{Inside}

-- a stop is a node
pub stop_node_below : (w : WaysFrom) (k : ℕ) → AreWays w → k < stop_count w → node_of w k < w.problem.size
stop_node_below w k is stop =
    stop_is_node w.problem.size w.hubs w.order k (hubs_are_nodes w.problem w.hubs is.problem.limits is.set)
    (order_nodes w.problem w.hubs w.order is.problem is.is_order) stop

-- the same of the parts
pub held_node_below : (s : Inside) (w : WaysFrom) (k : ℕ) → held_ways s ≡ w → AreWayParts s → k < stop_count w
    → stop_node s.hubs.now s.order.now k < s.instance.now.size
held_node_below s w k seen is stop =
    stop_node_below (held_ways s) k is.ways (subst (λ (v : WaysFrom). k < stop_count v) (sym seen) stop)

-- ---- how long

-- the place of a leg in the table of trunk legs
trunk_within : (s : Inside) (k m at : ℕ) (table : List ℕ) → AreWayParts s → k < stop_count (held_ways s) → m < stop_count (held_ways s)
    → at ≡ stop_count (held_ways s) → table ≡ s.legs.now.trunk → k * at + m < length table
trunk_within s k m at table is first last same held =
    let n = stop_count (held_ways s) in
    let stops : stops s.legs.now ≡ n = ap₂ (λ (a b : ℕ). a + b) is.legs.places is.legs.hubs_too in
    let square : length s.legs.now.trunk ≡ n * n = is.legs.legs.trunk_long ∙ ap (λ (x : ℕ). x * x) stops in
    let place : k * at + m ≡ k * n + m = ap (λ (x : ℕ). k * x + m) same in
    omega (arith, place, square, ap length held, mul-add-lt k n m n first last)

base_is : (s : Inside) (k m at : ℕ) (table : List ℕ) → AreWayParts s → k < stop_count (held_ways s) → m < stop_count (held_ways s)
    → at ≡ stop_count (held_ways s) → table ≡ s.legs.now.trunk
    → slice_index s.first.now k + slice_index table (k * at + m) ≡ base (held_ways s) k m
base_is s k m at table is first last same held =
    let stops : stops s.legs.now ≡ stop_count (held_ways s) = ap₂ (λ (a b : ℕ). a + b) is.legs.places is.legs.hubs_too in
    let there = is.firsts.each k (omega (arith, first, is.firsts.long)) in
    let on = is.legs.trunk k m (omega (arith, first, stops)) (omega (arith, last, stops)) in
    ap₂ (λ (a b : ℕ). a + b) there
    (ap₂ (λ (t : List ℕ) (x : ℕ). slice_index t (k * x + m)) held (same ∙ sym stops) ∙ on)

-- the length to a stop, as it is worked out
pub record IsBaseOf (s : Inside) (w : WaysFrom) (k m at : ℕ) (table : List ℕ) : Type 0 where
  pub within : k * at + m < length table
  pub is : slice_index s.first.now k + slice_index table (k * at + m) ≡ base w k m

pub base_of : (s : Inside) (w : WaysFrom) (k m at : ℕ) (table : List ℕ) → held_ways s ≡ w → AreWayParts s → k < stop_count w → m < stop_count w
    → at ≡ stop_count (held_ways s) → table ≡ s.legs.now.trunk → IsBaseOf s w k m at table
base_of s w k m at table seen is first last same held =
    subst (λ (v : WaysFrom). k < stop_count v → m < stop_count v → IsBaseOf s v k m at table) seen
    (λ f l. record { within = trunk_within s k m at table is f l same held; is = base_is s k m at table is f l same held }) first last

-- ---- rows

-- the legs from a stop to the destinations
pub record IsDeliveryRow (w : WaysFrom) (m at n : ℕ) (table : List ℕ) : Type 0 where
  pub within : at + n ≤ length table
  pub is : (j : ℕ) → j < w.size → slice_index table (at + j) ≡ delivery w m j
  pub limit : All (λ d. d ≤ most_leg) table

pub delivery_row : (s : Inside) (w : WaysFrom) (m n : ℕ) (table : List ℕ) → held_ways s ≡ w → AreWayParts s → m < stop_count w
    → n ≡ s.legs.now.size → table ≡ s.legs.now.last → IsDeliveryRow w m (m * n) n table
delivery_row s w m n table seen is stop same held =
    subst (λ (v : WaysFrom). m < stop_count v → IsDeliveryRow v m (m * n) n table) seen
    (λ below. subst (IsDeliveryRow (held_ways s) m (m * n) n) (sym held)
    (subst (λ (x : ℕ). IsDeliveryRow (held_ways s) m (m * x) x s.legs.now.last) (sym same) (here below))) stop
  where
    here : m < stop_count (held_ways s) → IsDeliveryRow (held_ways s) m (m * s.legs.now.size) s.legs.now.size s.legs.now.last
    here below =
        let row : m < stops s.legs.now = omega (arith, below, is.legs.places, is.legs.hubs_too) in
        record {
          within = omega (arith, row_within m s.legs.now.size (stops s.legs.now) row, is.legs.legs.last_long);
          is = λ j column. is.legs.last m j row column;
          limit = is.legs.legs.last_limit;
        }

-- how far it is from a stop to the destinations
pub record IsRestRow (w : WaysFrom) (m at n : ℕ) (table : List ℕ) : Type 0 where
  pub within : at + n ≤ length table
  pub is : (j : ℕ) → j < w.size → slice_index table (at + j) ≡ rest w m j
  pub limit : All (λ d. d ≤ most_distance) table

rest_at : (p : Problem) (k start j : ℕ) → slice_index p.distances (k * p.size + start + j) ≡ distance p k (start + j)
unfolding distance
rest_at p k start j = let same : k * p.size + start + j ≡ k * p.size + (start + j) = omega arith in ap (slice_index p.distances) same

pub rest_row : (s : Inside) (w : WaysFrom) (m node nodes n : ℕ) (table : List ℕ) → held_ways s ≡ w → AreWayParts s → m < stop_count w
    → node ≡ node_of (held_ways s) m → nodes ≡ s.instance.now.size → n ≡ s.legs.now.size → table ≡ s.instance.now.distances
    → IsRestRow w m (node * nodes + s.start) n table
rest_row s w m node nodes n table seen is stop at all same held =
    subst (λ (v : WaysFrom). m < stop_count v → IsRestRow v m (node * nodes + s.start) n table) seen
    (λ below. subst (IsRestRow (held_ways s) m (node * nodes + s.start) n) (sym held)
    (subst (λ (x : ℕ). IsRestRow (held_ways s) m (node * nodes + s.start) x p.distances) (sym same)
    (subst (λ (x : ℕ). IsRestRow (held_ways s) m (node * x + s.start) s.legs.now.size p.distances) (sym all)
    (subst (λ (x : ℕ). IsRestRow (held_ways s) m (x * p.size + s.start) s.legs.now.size p.distances) (sym at) (here below))))) stop
  where
    p : Problem
    p = s.instance.now

    here : m < stop_count (held_ways s)
        → IsRestRow (held_ways s) m (node_of (held_ways s) m * p.size + s.start) s.legs.now.size p.distances
    here below =
        let k = node_of (held_ways s) m in
        let node : k < p.size = stop_node_below (held_ways s) m is.ways below in
        let ok = is.ways.problem in
        record {
          within = omega (arith, row_within k p.size p.size node, ok.distance_for_each_pair, is.legs.destinations);
          is = λ j column. rest_at p k s.start j;
          limit = ok.distance_limit;
        }
