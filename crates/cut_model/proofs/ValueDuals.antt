-- The dual of any values is feasible, and no price above its own is.
use Rattle.std.proofs.Common.{◌≡◌, ◌≢◌, ℕ, ◌+◌, ◌*◌, ◌<◌, ◌≤◌, nat_eq, true, if◌then◌else◌, List, length, All, Contains, inl, ⊎_elim, refl, ap, ap₂, sym, ◌∙◌, eq-eqb, ne_eqb, eqb-true, mul-add, mul-le-mul_left, arith}
use Rattle.std.proofs.lemmas.Bool.{cases_lt, eqb-false, false≢true}
use Rattle.std.proofs.lemmas.List.{get_or_default}
use Rattle.std.proofs.lemmas.List.Elements.{All-weaker, Contains-get_or}
use Rattle.std.proofs.lemmas.List.Kept.{AllPairs-from_increasing}
use Rattle.hub_spec.specs.Problem.{Problem, IsProblem, flow, route_cost, is_allowed}
use Rattle.hub_spec.specs.Cuts.{Prices, value_at, IsDual}
use Rattle.hub_spec.specs.Separation.{values_listed}
use Rattle.hub_spec.proofs.Sets.{is_in, is_in-yes, Contains-from_is_in}
use Rattle.hub_spec.proofs.SumLemmas.{by_test}
use Rattle.hub_spec.proofs.SetCuts.{unlisted_value}
use Rattle.hub_spec.proofs.SetCutFunction.{IsListed, all_listed, value_at_listed}
use Rattle.unit_duals.specs.Leasts.{least_of}
use Rattle.unit_duals.proofs.LeastNumbers.{least_of_le, least_of_le_start, least_of_is}
use Rattle.hub_model.specs.CandidateLengths.{candidate_at, length_ceiling}
use Rattle.cut_model.specs.ValueRows.{route_length, node_value, valued_length, if_allowed, allowed_price, value_dual}

-- ---- the price

-- the commodity may go by way of the candidates at these two places
abbrev pub MayGo : Problem → ℕ × ℕ → ℕ → ℕ → Type 0
MayGo p c x y = is_allowed p c (candidate_at p x) (candidate_at p y) ≡ true

-- the valued length of an allowed route, and else the ceiling
abbrev pub length_or_ceiling : Problem → ℕ × ℕ → (ℕ → ℕ) → ℕ → ℕ → ℕ
length_or_ceiling p c v x y = if_allowed p c x y (valued_length p c v x y) (length_ceiling p)

pub price_within : (p : Problem) (c : ℕ × ℕ) (v : ℕ → ℕ) → allowed_price p c v ≤ length_ceiling p
unfolding allowed_price
price_within p c v =
    least_of_le_start (length_ceiling p) (λ x. least_of (length_ceiling p) (length_or_ceiling p c v x) (length p.candidates)) (length p.candidates)

pub price_below_each : (p : Problem) (c : ℕ × ℕ) (v : ℕ → ℕ) (x y : ℕ) → x < length p.candidates → y < length p.candidates
    → allowed_price p c v ≤ length_or_ceiling p c v x y
unfolding allowed_price
price_below_each p c v x y first last =
    let q = length p.candidates in
    let top = length_ceiling p in
    let outer = least_of_le top (λ a. least_of top (length_or_ceiling p c v a) q) q x first in
    let inner = least_of_le top (length_or_ceiling p c v x) q y last in
    omega (arith, outer, inner)

pub price_below : (p : Problem) (c : ℕ × ℕ) (v : ℕ → ℕ) (x y : ℕ) → x < length p.candidates → y < length p.candidates
    → MayGo p c x y → allowed_price p c v ≤ valued_length p c v x y
price_below p c v x y first last allowed =
    let here : length_or_ceiling p c v x y ≡ valued_length p c v x y = rw allowed refl in
    omega (arith, price_below_each p c v x y first last, here)

-- a number that is no more than w times the start and w times each number is no more than w times the least
least_times : (w a start : ℕ) (f : ℕ → ℕ) (k : ℕ) → a ≤ w * start → ((m : ℕ) → m < k → a ≤ w * f m) → a ≤ w * least_of start f k
least_times w a start f k low each = ⊎_elim
    (λ e. (let same = ap (λ v. w * v) e in omega (arith, low, same)))
    (λ p. (let same = ap (λ v. w * v) p.2 in omega (arith, each p.0 p.1, same)))
    (least_of_is start f k)

pub scaled_above : (p : Problem) (c : ℕ × ℕ) (v : ℕ → ℕ) (w a : ℕ) → a ≤ w * length_ceiling p
    → ((x y : ℕ) → x < length p.candidates → y < length p.candidates → a ≤ w * length_or_ceiling p c v x y) → a ≤ w * allowed_price p c v
unfolding allowed_price
scaled_above p c v w a low each =
    let q = length p.candidates in
    let top = length_ceiling p in
    least_times w a top (λ x. least_of top (length_or_ceiling p c v x) q) q low
    (λ x first. least_times w a top (length_or_ceiling p c v x) q low (λ y last. each x y first last))

-- what is so of the length of an allowed route and of the ceiling is so of the length or ceiling of any
pub whichever : (p : Problem) (c : ℕ × ℕ) (x y number other : ℕ) (fact : ℕ → Type 0) → (MayGo p c x y → fact number) → fact other
    → fact (if_allowed p c x y number other)
whichever p c x y number other fact one another =
    by_test (is_allowed p c (candidate_at p x) (candidate_at p y)) (λ yes. rw yes (one yes)) (λ no. rw no another)

-- a number that is above neither the ceiling nor any length that is looked at is not above the price
pub price_above : (p : Problem) (c : ℕ × ℕ) (v : ℕ → ℕ) (a : ℕ) → a ≤ length_ceiling p
    → ((x y : ℕ) → x < length p.candidates → y < length p.candidates → a ≤ length_or_ceiling p c v x y) → a ≤ allowed_price p c v
price_above p c v a low each =
    let all = scaled_above p c v 1 a (omega (arith, low)) (λ x y first last. omega (arith, each x y first last)) in
    omega (arith, all)

-- ---- valued lengths

pub length_alone : (p : Problem) (c : ℕ × ℕ) (v : ℕ → ℕ) (x : ℕ)
    → valued_length p c v x x ≡ route_length p c.0 c.1 (candidate_at p x) (candidate_at p x) + v (candidate_at p x)
unfolding valued_length
length_alone p c v x = rw (eq-eqb x x refl) (omega arith)

pub length_by_two : (p : Problem) (c : ℕ × ℕ) (v : ℕ → ℕ) (x y : ℕ) → x ≢ y
    → valued_length p c v x y
    ≡ route_length p c.0 c.1 (candidate_at p x) (candidate_at p y) + v (candidate_at p x) + v (candidate_at p y)
unfolding valued_length
length_by_two p c v x y apart = rw (ne_eqb x y apart) refl

-- the flow times the length is the cost
pub length_costs : (p : Problem) (i j k m : ℕ) → flow p i j * route_length p i j k m ≡ route_cost p i j k m
unfolding route_length route_cost
length_costs p i j k m = refl

-- ---- the dual is feasible

-- a candidate has a place
pub placed : (p : Problem) (k : ℕ) → Contains p.candidates k → (x : ℕ) × (x < length p.candidates) × (candidate_at p x ≡ k)
placed p k (x, l, e) = (x, l, get_or_default p.candidates x 0 k l ∙ e)

-- what a candidate's value in the dual is
pub dual_value : (p : Problem) (unit offset : ℕ) (row : List ℕ) (c : ℕ × ℕ) (k : ℕ) → Contains p.candidates k
    → value_at (value_dual p unit offset row c).u k ≡ offset + flow p c.0 c.1 * node_value p unit row k
unfolding value_dual
dual_value p unit offset row c k candidate =
    value_at_listed (λ m. offset + flow p c.0 c.1 * node_value p unit row m) p.candidates k (inl candidate)

-- in a list of the candidates' values no other node has one
listed_candidates : (p : Problem) (v : ℕ → ℕ) → All (λ (e : ℕ × ℕ). Contains p.candidates e.0) (values_listed v p.candidates)
listed_candidates p v =
    All-weaker (IsListed v p.candidates) (λ (e : ℕ × ℕ). Contains p.candidates e.0) (λ e l. l.node) (values_listed v p.candidates)
    (all_listed v p.candidates)

pub listed_none : (p : Problem) (v : ℕ → ℕ) (k : ℕ) → (Contains p.candidates k → ⊥) → value_at (values_listed v p.candidates) k ≡ 0
listed_none p v k none = unlisted_value p.candidates (values_listed v p.candidates) k (listed_candidates p v) none

-- no node's value in the dual is above that
pub dual_value_within : (p : Problem) (unit offset : ℕ) (row : List ℕ) (c : ℕ × ℕ) (k : ℕ)
    → value_at (value_dual p unit offset row c).u k ≤ offset + flow p c.0 c.1 * node_value p unit row k
unfolding value_dual
dual_value_within p unit offset row c k =
    let v : ℕ → ℕ = λ m. offset + flow p c.0 c.1 * node_value p unit row m in
    by_test (is_in p.candidates k)
    (λ yes. omega (arith, value_at_listed v p.candidates k (inl (Contains-from_is_in p.candidates k yes))))
    (λ no. omega (arith, listed_none p v k (λ there. false≢true (sym no ∙ is_in-yes p.candidates k there))))

pub dual_price : (p : Problem) (unit offset : ℕ) (row : List ℕ) (c : ℕ × ℕ)
    → (value_dual p unit offset row c).a ≡ offset + flow p c.0 c.1 * allowed_price p c (node_value p unit row)
unfolding value_dual
dual_price p unit offset row c = refl

one_covers : (p : Problem) (c : ℕ × ℕ) (v : ℕ → ℕ) (k : ℕ) → Contains p.candidates k → is_allowed p c k k ≡ true
    → flow p c.0 c.1 * allowed_price p c v ≤ route_cost p c.0 c.1 k k + flow p c.0 c.1 * v k
one_covers p c v k candidate allowed =
    let (x, within, at) = placed p k candidate in
    let w = flow p c.0 c.1 in
    let length_of : ℕ → ℕ = λ m. route_length p c.0 c.1 m m + v m in
    let goes : MayGo p c x x = ap (λ m. is_allowed p c m m) at ∙ allowed in
    let low : allowed_price p c v ≤ length_of k = omega (arith, price_below p c v x x within within goes, length_alone p c v x, ap length_of at) in
    omega (arith, mul-le-mul_left w low, mul-add w (route_length p c.0 c.1 k k) (v k), length_costs p c.0 c.1 k k)

two_cover : (p : Problem) (c : ℕ × ℕ) (v : ℕ → ℕ) (k m : ℕ) → Contains p.candidates k → Contains p.candidates m → k ≢ m
    → is_allowed p c k m ≡ true
    → flow p c.0 c.1 * allowed_price p c v ≤ route_cost p c.0 c.1 k m + flow p c.0 c.1 * v k + flow p c.0 c.1 * v m
two_cover p c v k m first second apart allowed =
    let (x, x_within, x_at) = placed p k first in
    let (y, y_within, y_at) = placed p m second in
    let w = flow p c.0 c.1 in
    let away : x ≢ y = λ same. apart (sym x_at ∙ ap (candidate_at p) same ∙ y_at) in
    let length_of : ℕ → ℕ → ℕ = λ a b. route_length p c.0 c.1 a b + v a + v b in
    let there = ap (λ a. length_of a (candidate_at p y)) x_at ∙ ap (length_of k) y_at in
    let goes : MayGo p c x y = ap₂ (is_allowed p c) x_at y_at ∙ allowed in
    let low : allowed_price p c v ≤ length_of k m =
    omega (arith, price_below p c v x y x_within y_within goes, length_by_two p c v x y away, there) in
    omega (
      arith,
      mul-le-mul_left w low,
      mul-add w (route_length p c.0 c.1 k m + v k) (v m),
      mul-add w (route_length p c.0 c.1 k m) (v k),
      length_costs p c.0 c.1 k m,
    )

are_candidates : (p : Problem) (unit offset : ℕ) (row : List ℕ) (c : ℕ × ℕ)
    → All (λ (e : ℕ × ℕ). Contains p.candidates e.0) (value_dual p unit offset row c).u
unfolding value_dual
are_candidates p unit offset row c = listed_candidates p (λ k. offset + flow p c.0 c.1 * node_value p unit row k)

pub dual_is : (p : Problem) (unit offset : ℕ) (row : List ℕ) (c : ℕ × ℕ) → IsDual p 1 c (value_dual p unit offset row c)
dual_is p unit offset row c =
    let v = node_value p unit row in
    record {
      are_candidates = are_candidates p unit offset row c;
      one_hub = λ k candidate allowed. omega (
        arith,
        dual_price p unit offset row c,
        dual_value p unit offset row c k candidate,
        one_covers p c v k candidate allowed,
      );
      two_hubs = λ k m first second apart allowed. omega (
        arith,
        dual_price p unit offset row c,
        dual_value p unit offset row c k first,
        dual_value p unit offset row c m second,
        two_cover p c v k m first second apart allowed,
      );
    }

-- ---- no greater price

pub none_greater : (p : Problem) (unit : ℕ) (row : List ℕ) (c : ℕ × ℕ) (d : Prices) → IsProblem p → IsDual p 1 c d
    → ((k : ℕ) → Contains p.candidates k → value_at d.u k ≡ value_at (value_dual p unit 0 row c).u k)
    → d.a ≤ flow p c.0 c.1 * length_ceiling p → d.a ≤ (value_dual p unit 0 row c).a
none_greater p unit row c d ok is same low =
    let all = scaled_above p c v w d.a low (λ x y first last. whichever p c x y (valued_length p c v x y) (length_ceiling p) (λ n. d.a ≤ w * n)
    (λ goes. by_test (nat_eq x y) (λ e. alone x y first (eqb-true x y e) goes) (λ e. by_two x y first last (eqb-false x y e) goes)) low) in
    omega (arith, all, dual_price p unit 0 row c)
  where
    w : ℕ
    w = flow p c.0 c.1

    v : ℕ → ℕ
    v = node_value p unit row

    listed : (x : ℕ) → x < length p.candidates → value_at d.u (candidate_at p x) ≡ w * v (candidate_at p x)
    listed x within =
        let there = Contains-get_or p.candidates x 0 within in
        omega (arith, same (candidate_at p x) there, dual_value p unit 0 row c (candidate_at p x) there)

    nodes_apart : (x y : ℕ) → x < length p.candidates → y < length p.candidates → x ≢ y → candidate_at p x ≢ candidate_at p y
    nodes_apart x y first last apart e =
        let rising = AllPairs-from_increasing p.candidates ok.candidates_ascend in
        ⊎_elim (λ less. absurd (omega (arith, rising x y 0 less last, e)))
        (λ le. ⊎_elim (λ more. absurd (omega (arith, rising y x 0 more first, e))) (λ ge. apart (omega (arith, le, ge))) (cases_lt y x))
        (cases_lt x y)

    alone : (x y : ℕ) → x < length p.candidates → x ≡ y → MayGo p c x y → d.a ≤ w * valued_length p c v x y
    alone x y within e goes =
        let k = candidate_at p x in
        let allowed : is_allowed p c k k ≡ true = ap (λ z. is_allowed p c k (candidate_at p z)) e ∙ goes in
        let here = ap (λ z. w * valued_length p c v x z) e in
        let parts = ap (λ z. w * z) (length_alone p c v x) in
        omega (
          arith,
          here,
          parts,
          is.one_hub k (Contains-get_or p.candidates x 0 within) allowed,
          listed x within,
          mul-add w (route_length p c.0 c.1 k k) (v k),
          length_costs p c.0 c.1 k k,
        )

    by_two : (x y : ℕ) → x < length p.candidates → y < length p.candidates → x ≢ y → MayGo p c x y → d.a ≤ w * valued_length p c v x y
    by_two x y first last apart goes =
        let k = candidate_at p x in
        let m = candidate_at p y in
        let parts = ap (λ z. w * z) (length_by_two p c v x y apart) in
        omega (
          arith,
          parts,
          is.two_hubs k m (Contains-get_or p.candidates x 0 first) (Contains-get_or p.candidates y 0 last) (nodes_apart x y first last apart) goes,
          listed x first,
          listed y last,
          mul-add w (route_length p c.0 c.1 k m + v k) (v m),
          mul-add w (route_length p c.0 c.1 k m) (v k),
          length_costs p c.0 c.1 k m,
        )
