-- The conditions on a dual by the list of its values.
use Rattle.std.proofs.Common.{◌≡◌, ℕ, zero, suc, ◌+◌, ◌*◌, ◌^◌, ◌<◌, ◌≤◌, List, [], ◌∷◌, slice_index, get_or, take, replicate, nat_eq, Bool, IsTrue, ◌↔◌, All, Contains, inl, inr, refl, ⊎_elim, subst, mul-le-mul_left, arith}
use Rattle.std.proofs.lemmas.Bool.{cases_eq, cond_both}
use Rattle.std.proofs.lemmas.List.Elements.{All-head, All-tail, All-contains, All-weaker, All-get_or, All-from_get_or, Contains-get_or}
use Rattle.hub_spec.specs.Problem.{Problem, flow, distance, route_cost}
use Rattle.hub_spec.specs.Ranges.{IsAmount, IsDualInRange}
use Rattle.hub_spec.specs.Cuts.{Prices, value_at, IsDual}
use Rattle.hub_spec.proofs.Sets.{All-from_contains}
use Rattle.dual_lines.specs.Covers.{IsCoveredBy, IsCoveredFrom, IsCoveredFirst}
use Rattle.dual_lines.specs.Places.{ArePlaces}
use Rattle.dual_lines.specs.LineParts.{AreAmounts, HasPlace}

value_short : (m : ℕ) (u : List (ℕ × ℕ)) (k : ℕ) → 0 < m → All (λ (e : ℕ × ℕ). e.1 < m) u → value_at u k < m
value_short m [] k some h = some
value_short m (e ∷ u) k some h =
    cond_both (nat_eq e.0 k) e.1 (value_at u k) (λ v. v < m) (λ is. All-head (λ (e : ℕ × ℕ). e.1 < m) e u h)
    (λ is. value_short m u k some (All-tail (λ (e : ℕ × ℕ). e.1 < m) e u h))

pub amounts_short : (n m a : ℕ) (u : List (ℕ × ℕ)) (amounts : List ℕ) → IsDualInRange n (record { a = a; u = u }) → AreAmounts m u amounts
    → All IsAmount amounts
amounts_short n m a u amounts range are =
    let short = All-weaker (λ (e : ℕ × ℕ). (e.0 < n) × (1 ≤ e.1) × IsAmount e.1) (λ (e : ℕ × ℕ). e.1 < 10 ^ 33) (λ e h. h.2) u range.each in
    All-from_get_or IsAmount amounts 0 (λ k below.
    let one = value_short (10 ^ 33) u k (omega arith) short in omega (arith, one, are.each k))

-- in room of which nothing is used yet each node has the amount 0
pub no_amounts : (m n k : ℕ) → ◌≡◌ {A = ℕ} (get_or (take n (replicate m 0)) k 0) 0
no_amounts m zero k = refl
no_amounts zero (suc n) k = refl
no_amounts (suc m) (suc n) zero = refl
no_amounts (suc m) (suc n) (suc k) = no_amounts m n k

collection-le : (p : Problem) (i j k m : ℕ) → flow p i j * (p.collect * distance p i k) ≤ route_cost p i j k m
unfolding route_cost
collection-le p i j k m = mul-le-mul_left (flow p i j) (omega arith)

-- where collection and the value of the first hub cover the price, each last hub does
pub covered_by_collection : (p : Problem) (part : ℕ) (c : ℕ × ℕ) (a : ℕ) (amounts : List ℕ) (k : ℕ)
    → a ≤ part * (flow p c.0 c.1 * (p.collect * distance p c.0 k)) + slice_index amounts k → IsCoveredFrom p part c a amounts k
covered_by_collection p part c a amounts k h =
    All-from_contains (IsCoveredBy p part c a amounts k) p.candidates (λ m in_m.
    let within = mul-le-mul_left part (collection-le p c.0 c.1 k m) in inr (λ allowed. omega (arith, h, within)))

-- ---- a node has a place just where it is a candidate

contains_placed : (p : Problem) (places : List ℕ) (k : ℕ) → ArePlaces p places → k < p.size → HasPlace p places k → Contains p.candidates k
contains_placed p places k are node placed =
    subst (Contains p.candidates) (are.candidate k node placed) (Contains-get_or p.candidates (slice_index places k) 0 placed)

placed_contained : (p : Problem) (places : List ℕ) (k : ℕ) → ArePlaces p places → Contains p.candidates k → HasPlace p places k
placed_contained p places k are has =
    All-contains (HasPlace p places) p.candidates k
    (All-from_get_or (HasPlace p places) p.candidates 0 (λ x below. omega (arith, are.place x below, below))) has

pub listed_are_candidates : (p : Problem) (places : List ℕ) (d : Prices) → ArePlaces p places → IsDualInRange p.size d
    → All (λ (e : ℕ × ℕ). HasPlace p places e.0) d.u → All (λ (e : ℕ × ℕ). Contains p.candidates e.0) d.u
listed_are_candidates p places d are range placed =
    All-from_get_or (λ (e : ℕ × ℕ). Contains p.candidates e.0) d.u (0, 0) (λ t below.
    contains_placed p places (get_or d.u t (0, 0)).0 are
    (All-get_or (λ (e : ℕ × ℕ). (e.0 < p.size) × (1 ≤ e.1) × IsAmount e.1) d.u t (0, 0) below range.each).0
    (All-get_or (λ (e : ℕ × ℕ). HasPlace p places e.0) d.u t (0, 0) below placed))

pub candidates_have_places : (p : Problem) (places : List ℕ) (u : List (ℕ × ℕ)) → ArePlaces p places
    → All (λ (e : ℕ × ℕ). Contains p.candidates e.0) u → All (λ (e : ℕ × ℕ). HasPlace p places e.0) u
candidates_have_places p places u are has =
    All-weaker (λ (e : ℕ × ℕ). Contains p.candidates e.0) (λ (e : ℕ × ℕ). HasPlace p places e.0)
    (λ e h. placed_contained p places e.0 are h) u has

-- ---- the conditions

dual_from_amounts : (p : Problem) (part : ℕ) (c : ℕ × ℕ) (d : Prices) (amounts : List ℕ) → AreAmounts p.size d.u amounts
    → All (λ (e : ℕ × ℕ). Contains p.candidates e.0) d.u → All (IsCoveredFirst p part c d.a amounts) p.candidates → IsDual p part c d
dual_from_amounts p part c d amounts are listed covered = record {
  are_candidates = listed;
  one_hub = λ k in_k allowed.
      let h = All-contains (IsCoveredFirst p part c d.a amounts) p.candidates k covered in_k in omega (arith, h.0 allowed, are.each k);
  two_hubs = λ k m in_k in_m apart allowed.
      ⊎_elim (λ same. absurd (apart same)) (λ h. omega (arith, h allowed, are.each k, are.each m))
      (All-contains (IsCoveredBy p part c d.a amounts k) p.candidates m
      (All-contains (IsCoveredFirst p part c d.a amounts) p.candidates k covered in_k).1 in_m);
}

covered_from_dual : (p : Problem) (part : ℕ) (c : ℕ × ℕ) (d : Prices) (amounts : List ℕ) → AreAmounts p.size d.u amounts → IsDual p part c d
    → All (IsCoveredFirst p part c d.a amounts) p.candidates
covered_from_dual p part c d amounts are h =
    All-from_contains (IsCoveredFirst p part c d.a amounts) p.candidates (λ k in_k. (
      λ allowed. omega (arith, h.one_hub k in_k allowed, are.each k),
      All-from_contains (IsCoveredBy p part c d.a amounts k) p.candidates (λ m in_m.
          ⊎_elim (λ same. inl same) (λ apart. inr (λ allowed. omega (arith, h.two_hubs k m in_k in_m apart allowed, are.each k, are.each m)))
          (cases_eq k m)),
    ))

-- the dual is feasible just where only candidates are listed, and all routes that are allowed and values cover its price
pub dual_by_amounts : (p : Problem) (part : ℕ) (c : ℕ × ℕ) (d : Prices) (amounts : List ℕ) (covered : Bool) → AreAmounts p.size d.u amounts
    → All (λ (e : ℕ × ℕ). Contains p.candidates e.0) d.u → (IsTrue covered ↔ All (IsCoveredFirst p part c d.a amounts) p.candidates)
    → (IsTrue covered ↔ IsDual p part c d)
dual_by_amounts p part c d amounts covered are listed says = (
  λ yes. dual_from_amounts p part c d amounts are listed (says.0 yes),
  λ dual. says.1 (covered_from_dual p part c d amounts are dual),
)
