-- The least value of a place by unit of flow, times the flow, is what the routes ask of its node.
use Rattle.std.proofs.Common.{◌≡◌, ℕ, ◌+◌, ◌-◌, ◌*◌, ◌<◌, ◌≤◌, true, List, length, get_or, take, slice_index, Contains, Option, Some, None, ⊎_elim, zero, suc, refl, ap, sym, subst, ◌∙◌, arith}
use Rattle.std.proofs.lemmas.Bool.{cases_lt}
use Rattle.std.proofs.Math.Nat.{mul-le-mul_left}
use Rattle.std.proofs.lemmas.List.{get_or-take, get_or_default, length-take-le}
use Rattle.std.proofs.lemmas.List.Elements.{All-cons, All-append, All-map, Contains-get_or}
use Rattle.hub_spec.specs.Problem.{Problem, route_cost, is_allowed}
use Rattle.hub_spec.specs.Edges.{single_cost, edge_cost}
use Rattle.hub_spec.specs.Cuts.{Prices, value_at}
use Rattle.hub_spec.specs.Separation.{below_price, single_ask, edge_ask, asks, asked_value, IsMinimalDual}
use Rattle.hub_spec.proofs.AskedValues.{asks_single, asks_hub, asks_earlier, greatest_within}
use Rattle.hub_spec.proofs.Ways.{way_is, way_asks, single_asks, ask_turned, edge_is}
use Rattle.leg_duals.specs.StopLegs.{stop_node}
use Rattle.leg_duals.proofs.StopNodes.{IsHubPlace, place_node, hub_place, place_hub}

-- for a commodity with the flow w: which ways by two stops are allowed, and the flow times their lengths are their
-- routes' costs
pub record AreWaysPriced (p : Problem) (hubs order : List ℕ) (c : ℕ × ℕ) (w : ℕ) (near : ℕ → ℕ → Type 0) (long : ℕ → ℕ → ℕ) : Type 0 where
  pub cost : (k m : ℕ) → k < length order + length hubs → m < length order + length hubs
      → w * long k m ≡ route_cost p c.0 c.1 (stop_node hubs order k) (stop_node hubs order m)
  pub near_allowed : (k m : ℕ) → k < length order + length hubs → m < length order + length hubs → near k m
      → is_allowed p c (stop_node hubs order k) (stop_node hubs order m) ≡ true
  pub allowed_near : (k m : ℕ) → k < length order + length hubs → m < length order + length hubs
      → is_allowed p c (stop_node hubs order k) (stop_node hubs order m) ≡ true → near k m

-- where the price is a and the places have these values, v is nothing or just what some way by the place t asks
pub data IsAsked (hubs order : List ℕ) (near : ℕ → ℕ → Type 0) (long : ℕ → ℕ → ℕ) (a : ℕ) (values : ℕ → ℕ) (t v : ℕ) : Type 0 where
  nothing : v ≡ 0 → IsAsked hubs order near long a values t v
  by_itself : near t t → v + long t t ≡ a → IsAsked hubs order near long a values t v
  to_hub : (m : ℕ) → IsHubPlace hubs order m → near t m → v + long t m ≡ a → IsAsked hubs order near long a values t v
  from_hub : (m : ℕ) → IsHubPlace hubs order m → near m t → v + long m t ≡ a → IsAsked hubs order near long a values t v
  to_earlier : (m : ℕ) → m < t → near t m → v + (long t m + values m) ≡ a → IsAsked hubs order near long a values t v
  from_earlier : (m : ℕ) → m < t → near m t → v + (long m t + values m) ≡ a → IsAsked hubs order near long a values t v

-- v is the least value of the place t: it meets all that the ways by t ask which are allowed, and no more
pub record IsLeastAsked (hubs order : List ℕ) (near : ℕ → ℕ → Type 0) (long : ℕ → ℕ → ℕ) (a : ℕ) (values : ℕ → ℕ) (t v : ℕ) : Type 0 where
  pub itself : near t t → a ≤ v + long t t
  pub to_hubs : (m : ℕ) → IsHubPlace hubs order m → near t m → a ≤ v + long t m
  pub from_hubs : (m : ℕ) → IsHubPlace hubs order m → near m t → a ≤ v + long m t
  pub to_places : (m : ℕ) → m < t → near t m → a ≤ v + (long t m + values m)
  pub from_places : (m : ℕ) → m < t → near m t → a ≤ v + (long m t + values m)
  pub is : IsAsked hubs order near long a values t v

-- ---- stops and nodes

-- a node before the place t, by its place
pub record IsEarlier (order : List ℕ) (t m : ℕ) : Type 0 where
  pub place : ℕ
  pub below : place < t
  pub node : slice_index order place ≡ m

pub earlier_place : (order : List ℕ) (t m : ℕ) → t < length order → Contains (take t order) m → IsEarlier order t m
earlier_place order t m within (y, below, e) =
    let low : y < t = omega (arith, below, length-take-le t order (omega (arith, within))) in
    record {
      place = y;
      below = low;
      node = sym (get_or-take t order y 0 low) ∙ get_or_default (take t order) y 0 m below ∙ e;
    }

pub place_before : (order : List ℕ) (t m : ℕ) → m < t → t < length order → Contains (take t order) (slice_index order m)
place_before order t m below within =
    subst (Contains (take t order)) (get_or-take t order m 0 below)
    (Contains-get_or (take t order) m 0 (omega (arith, below, length-take-le t order (omega (arith, within)))))

-- ---- what the ways ask is met

scaled : (w a v u : ℕ) → a ≤ v + u → w * a ≤ w * v + w * u
scaled w a v u h = omega (arith, mul-le-mul_left w h)

scaled_too : (w a v u x : ℕ) → a ≤ v + (u + x) → w * a ≤ w * v + w * u + w * x
scaled_too w a v u x h = omega (arith, mul-le-mul_left w h)

equal_scaled : (w a v u : ℕ) → v + u ≡ a → w * v + w * u ≡ w * a
equal_scaled w a v u h = omega (arith, ap (λ z. w * z) h)

equal_scaled_too : (w a v u x : ℕ) → v + (u + x) ≡ a → w * v + w * u + w * x ≡ w * a
equal_scaled_too w a v u x h = omega (arith, ap (λ z. w * z) h)

-- a cost asks no more than what meets it where it is there
asks_within : (a : ℕ) (d : Option ℕ) (most : ℕ) → ((f : ℕ) → d ≡ Some f → a ≤ most + f) → below_price a d ≤ most
asks_within a None most met = omega arith
asks_within a (Some f) most met = omega (arith, met f refl)

-- the place t, and the values of the nodes before it
pub record IsTurn (order : List ℕ) (w t : ℕ) (values by_node : ℕ → ℕ) : Type 0 where
  pub within : t < length order
  pub before : (m : ℕ) → m < t → by_node (slice_index order m) ≡ w * values m

not_below : (p : Problem) (hubs order : List ℕ) (c : ℕ × ℕ) (w : ℕ) (near : ℕ → ℕ → Type 0) (long : ℕ → ℕ → ℕ) (a t v : ℕ) (values by_node : ℕ → ℕ)
    → AreWaysPriced p hubs order c w near long → IsTurn order w t values by_node → IsLeastAsked hubs order near long a values t v
    → asked_value p hubs c (w * a) by_node (take t order) (slice_index order t) ≤ w * v
unfolding asked_value
not_below p hubs order c w near long a t v values by_node priced turn least =
    greatest_within (w * v) (asks p hubs c (w * a) by_node (take t order) k)
    (All-cons (λ x. x ≤ w * v) (single_ask p c (w * a) k) _ single
    (All-append (λ x. x ≤ w * v) _ _
    (All-map (λ x. x ≤ w * v) (edge_ask p c (w * a) k) hubs (λ n d below. by_hub (get_or hubs n d) (Contains-get_or hubs n d below)))
    (All-map (λ x. x ≤ w * v) (λ m. edge_ask p c (w * a) k m - by_node m) (take t order)
    (λ n d below. by_earlier (get_or (take t order) n d) (Contains-get_or (take t order) n d below)))))
  where
    k : ℕ
    k = slice_index order t

    here : stop_node hubs order t ≡ k
    here = place_node hubs order t turn.within

    stop : t < length order + length hubs
    stop = omega (arith, turn.within)

    -- a way by the stops x and y, one of which is the place, whose nodes are k and m
    Covers : ℕ → ℕ → ℕ → Type 0
    Covers first last extra = is_allowed p c first last ≡ true → w * a ≤ w * v + route_cost p c.0 c.1 first last + extra

    single : single_ask p c (w * a) k ≤ w * v
    single = asks_within (w * a) (single_cost p c k) (w * v) (λ f there.
        (let is = way_is p c k k f there in
        let close = priced.allowed_near t t stop stop (rw here is.0) in
        let cost = rw here at (priced.cost t t stop stop) in
        omega (arith, scaled w a v (long t t) (least.itself close), cost, is.1)))

    -- an edge, where both its directions are covered
    edge : (m extra : ℕ) → Covers k m extra → Covers m k extra → edge_ask p c (w * a) k m ≤ w * v + extra
    edge m extra forth home = asks_within (w * a) (edge_cost p c k m) (w * v + extra) (λ f there.
        ⊎_elim (λ is. omega (arith, forth is.0, is.1)) (λ is. omega (arith, home is.0, is.1)) (edge_is p c k m f there))

    by_hub : (m : ℕ) → Contains hubs m → edge_ask p c (w * a) k m ≤ w * v
    by_hub m hub =
        let s = hub_place hubs order m hub in
        let both : edge_ask p c (w * a) k m ≤ w * v + 0 = edge m 0
        (λ allowed. (let cost = rw (here, s.2) at (priced.cost t s.0 stop s.1.1) in
        let close = priced.allowed_near t s.0 stop s.1.1 (rw (here, s.2) allowed) in
        omega (arith, scaled w a v (long t s.0) (least.to_hubs s.0 s.1 close), cost)))
        (λ allowed. (let cost = rw (here, s.2) at (priced.cost s.0 t s.1.1 stop) in
        let close = priced.allowed_near s.0 t s.1.1 stop (rw (here, s.2) allowed) in
        omega (arith, scaled w a v (long s.0 t) (least.from_hubs s.0 s.1 close), cost))) in
        omega (arith, both)

    by_earlier : (m : ℕ) → Contains (take t order) m → edge_ask p c (w * a) k m - by_node m ≤ w * v
    by_earlier m before =
        let e = earlier_place order t m turn.within before in
        let node : stop_node hubs order e.place ≡ m = place_node hubs order e.place (omega (arith, e.below, turn.within)) ∙ e.node in
        let early : e.place < length order + length hubs = omega (arith, e.below, stop) in
        let value : by_node m ≡ w * values e.place = ap by_node (sym e.node) ∙ turn.before e.place e.below in
        let both : edge_ask p c (w * a) k m ≤ w * v + w * values e.place = edge m (w * values e.place)
        (λ allowed. (let cost = rw (here, node) at (priced.cost t e.place stop early) in
        let close = priced.allowed_near t e.place stop early (rw (here, node) allowed) in
        omega (arith, scaled_too w a v (long t e.place) (values e.place) (least.to_places e.place e.below close), cost)))
        (λ allowed. (let cost = rw (here, node) at (priced.cost e.place t early stop) in
        let close = priced.allowed_near e.place t early stop (rw (here, node) allowed) in
        omega (arith, scaled_too w a v (long e.place t) (values e.place) (least.from_places e.place e.below close), cost))) in
        omega (arith, both, value)

not_above : (p : Problem) (hubs order : List ℕ) (c : ℕ × ℕ) (w : ℕ) (near : ℕ → ℕ → Type 0) (long : ℕ → ℕ → ℕ) (a t v : ℕ) (values by_node : ℕ → ℕ)
    → AreWaysPriced p hubs order c w near long → IsTurn order w t values by_node → IsAsked hubs order near long a values t v
    → w * v ≤ asked_value p hubs c (w * a) by_node (take t order) (slice_index order t)
not_above p hubs order c w near long a t v values by_node priced turn asked = at asked
  where
    k : ℕ
    k = slice_index order t

    here : stop_node hubs order t ≡ k
    here = place_node hubs order t turn.within

    stop : t < length order + length hubs
    stop = omega (arith, turn.within)

    at_hub : (m : ℕ) → IsHubPlace hubs order m → edge_ask p c (w * a) k (stop_node hubs order m) ≤ asked_value p hubs c (w * a) by_node (take t order) k
    at_hub m hub = asks_hub p hubs c (w * a) by_node (take t order) k (stop_node hubs order m) (place_hub hubs order m hub)

    at_place : (m : ℕ) → m < t → edge_ask p c (w * a) k (slice_index order m) - w * values m ≤ asked_value p hubs c (w * a) by_node (take t order) k
    at_place m below =
        let asks = asks_earlier p hubs c (w * a) by_node (take t order) k (slice_index order m) (place_before order t m below turn.within) in
        omega (arith, asks, turn.before m below)

    at : IsAsked hubs order near long a values t v → w * v ≤ asked_value p hubs c (w * a) by_node (take t order) k
    at (nothing e) = omega (arith, ap (λ z. w * z) e)
    at (by_itself close e) =
        let cost = rw here at (priced.cost t t stop stop) in
        let asks = single_asks p c (w * a) k (rw here at (priced.near_allowed t t stop stop close)) in
        omega (arith, equal_scaled w a v (long t t) e, cost, asks, asks_single p hubs c (w * a) by_node (take t order) k)
    at (to_hub m hub close e) =
        let cost = rw here at (priced.cost t m stop hub.1) in
        let asks = way_asks p c (w * a) k (stop_node hubs order m) (rw here at (priced.near_allowed t m stop hub.1 close)) in
        omega (arith, equal_scaled w a v (long t m) e, cost, asks, at_hub m hub)
    at (from_hub m hub close e) =
        let cost = rw here at (priced.cost m t hub.1 stop) in
        let asks = way_asks p c (w * a) (stop_node hubs order m) k (rw here at (priced.near_allowed m t hub.1 stop close)) in
        omega (arith, equal_scaled w a v (long m t) e, cost, asks, ask_turned p c (w * a) k (stop_node hubs order m), at_hub m hub)
    at (to_earlier m below close e) =
        let node = place_node hubs order m (omega (arith, below, turn.within)) in
        let early : m < length order + length hubs = omega (arith, below, stop) in
        let cost = rw (here, node) at (priced.cost t m stop early) in
        let asks = way_asks p c (w * a) k (slice_index order m) (rw (here, node) at (priced.near_allowed t m stop early close)) in
        omega (arith, equal_scaled_too w a v (long t m) (values m) e, cost, asks, at_place m below)
    at (from_earlier m below close e) =
        let node = place_node hubs order m (omega (arith, below, turn.within)) in
        let early : m < length order + length hubs = omega (arith, below, stop) in
        let cost = rw (here, node) at (priced.cost m t early stop) in
        let asks = way_asks p c (w * a) (slice_index order m) k (rw (here, node) at (priced.near_allowed m t early stop close)) in
        omega (arith, equal_scaled_too w a v (long m t) (values m) e, cost, asks, ask_turned p c (w * a) k (slice_index order m), at_place m below)

pub value_is_asked : (p : Problem) (hubs order : List ℕ) (c : ℕ × ℕ) (w : ℕ) (near : ℕ → ℕ → Type 0) (long : ℕ → ℕ → ℕ) (a t v : ℕ) (values by_node : ℕ → ℕ)
    → AreWaysPriced p hubs order c w near long → IsTurn order w t values by_node → IsLeastAsked hubs order near long a values t v
    → w * v ≡ asked_value p hubs c (w * a) by_node (take t order) (slice_index order t)
value_is_asked p hubs order c w near long a t v values by_node priced turn least =
    omega (
      arith,
      not_below p hubs order c w near long a t v values by_node priced turn least,
      not_above p hubs order c w near long a t v values by_node priced turn least.is,
    )

-- ---- in the turns of the order

value_next : (p : Problem) (hubs order : List ℕ) (c : ℕ × ℕ) (w : ℕ) (near : ℕ → ℕ → Type 0) (long : ℕ → ℕ → ℕ) (a t : ℕ) (values : ℕ → ℕ) (d : Prices)
    → AreWaysPriced p hubs order c w near long → IsMinimalDual p hubs order c d → w * a ≡ d.a → IsLeastAsked hubs order near long a values t (values t)
    → t < length order → ((m : ℕ) → m < t → w * values m ≡ value_at d.u (slice_index order m))
    → w * values t ≡ value_at d.u (slice_index order t)
value_next p hubs order c w near long a t values d priced minimal price least within before =
    let turn : IsTurn order w t values (value_at d.u) = record { within = within; before = λ m less. sym (before m less) } in
    value_is_asked p hubs order c w near long a t (values t) values (value_at d.u) priced turn least
    ∙ ap (λ z. asked_value p hubs c z (value_at d.u) (take t order) (slice_index order t)) price
    ∙ sym (minimal.in_turn t within)

-- the values of the places before t, times the flow, are those of the minimal dual
values_before : (p : Problem) (hubs order : List ℕ) (c : ℕ × ℕ) (w : ℕ) (near : ℕ → ℕ → Type 0) (long : ℕ → ℕ → ℕ) (a : ℕ) (values : ℕ → ℕ) (d : Prices)
    → AreWaysPriced p hubs order c w near long → IsMinimalDual p hubs order c d → w * a ≡ d.a
    → ((t : ℕ) → t < length order → IsLeastAsked hubs order near long a values t (values t))
    → (t : ℕ) → t ≤ length order → (s : ℕ) → s < t → w * values s ≡ value_at d.u (slice_index order s)
values_before p hubs order c w near long a values d priced minimal price least zero within s below = absurd (omega (arith, below))
values_before p hubs order c w near long a values d priced minimal price least (suc t) within s below =
    let before = values_before p hubs order c w near long a values d priced minimal price least t (omega (arith, within)) in
    let low : t < length order = omega (arith, within) in
    let here = value_next p hubs order c w near long a t values d priced minimal price (least t low) low before in
    ⊎_elim (λ less. before s less)
    (λ last. subst (λ x. w * values x ≡ value_at d.u (slice_index order x)) (omega (arith, last, below)) here) (cases_lt s t)

pub values_of_minimal : (p : Problem) (hubs order : List ℕ) (c : ℕ × ℕ) (w : ℕ) (near : ℕ → ℕ → Type 0) (long : ℕ → ℕ → ℕ) (a : ℕ) (values : ℕ → ℕ) (d : Prices)
    → AreWaysPriced p hubs order c w near long → IsMinimalDual p hubs order c d → w * a ≡ d.a
    → ((t : ℕ) → t < length order → IsLeastAsked hubs order near long a values t (values t))
    → (t : ℕ) → t < length order → w * values t ≡ value_at d.u (slice_index order t)
values_of_minimal p hubs order c w near long a values d priced minimal price least t below =
    values_before p hubs order c w near long a values d priced minimal price least (length order) (omega arith) t below
