-- The least cost by unit of flow over a list of hubs, with one more at its end.
use Rattle.std.proofs.Common.{◌≡◌, ℕ, ◌+◌, ◌*◌, ◌<◌, ◌≤◌, min, None, List, [], ◌∷◌, length, get_or, take, All, Contains, ⊎_elim, ap, sym, ◌∙◌, subst, mul-le-mul_left, arith}
use Rattle.std.proofs.lemmas.Bool.{cases_lt}
use Rattle.std.proofs.lemmas.List.{take_all, take_more}
use Rattle.std.proofs.lemmas.List.Elements.{All-more, All-contains, All-weaker, Contains-append_left, Contains-append_right}
use Rattle.hub_spec.specs.Problem.{Problem, flow, route_cost}
use Rattle.hub_spec.specs.Edges.{least_cost, IsLeastCost}
use Rattle.hub_spec.proofs.PlanCosts.{any_allowed}
use Rattle.hub_spec.proofs.Sets.{Contains-head}
use Rattle.hub_spec.proofs.SetCutFunction.{least_cost_is, price_same}
use Rattle.core_lines.specs.LineParts.{IsLeastFrom}

-- a member of a front is one of a longer front, and so is the next
kept : (ks : List ℕ) (x m : ℕ) → x < length ks → Contains (take x ks) m → Contains (take (x + 1) ks) m
kept ks x m below here = subst (λ (l : List ℕ). Contains l m) (sym (take_more ks x 0 below)) (Contains-append_left (take x ks) (get_or ks x 0 ∷ []) m here)

next : (ks : List ℕ) (x : ℕ) → x < length ks → Contains (take (x + 1) ks) (get_or ks x 0)
next ks x below =
    subst (λ (l : List ℕ). Contains l (get_or ks x 0)) (sym (take_more ks x 0 below))
    (Contains-append_right (take x ks) (get_or ks x 0 ∷ []) (get_or ks x 0) (Contains-head (get_or ks x 0) []))

more : (P : ℕ → Type 0) (ks : List ℕ) (x : ℕ) → x < length ks → All P (take x ks) → P (get_or ks x 0) → All P (take (x + 1) ks)
more P ks x below so_far here = All-more P ks x 0 below so_far here

none : (P : ℕ → Type 0) (ks : List ℕ) → All P (take 0 ks)
none P ks = λ k d l. absurd (omega arith)

-- ---- one first hub

pub from_one : (p : Problem) (c : ℕ × ℕ) (k : ℕ) (hubs : List ℕ) (unit : ℕ) → 1 ≤ length hubs
    → flow p c.0 c.1 * unit ≡ route_cost p c.0 c.1 k (get_or hubs 0 0) → IsLeastFrom p c k (take 1 hubs) unit
from_one p c k hubs unit some is = record {
  reached = (get_or hubs 0 0, next hubs 0 (omega arith), is);
  least = more (λ m. flow p c.0 c.1 * unit ≤ route_cost p c.0 c.1 k m) hubs 0 (omega arith) (none (λ m. flow p c.0 c.1 * unit ≤ route_cost p c.0 c.1 k m) hubs) (omega (arith, is));
}

pub from_more : (p : Problem) (c : ℕ × ℕ) (k : ℕ) (hubs : List ℕ) (x least unit result : ℕ) → x < length hubs
    → IsLeastFrom p c k (take x hubs) least → flow p c.0 c.1 * unit ≡ route_cost p c.0 c.1 k (get_or hubs x 0) → result ≡ min least unit
    → IsLeastFrom p c k (take (x + 1) hubs) result
from_more p c k hubs x least unit result below so_far is lesser =
    let w = flow p c.0 c.1 in
    let low : w * result ≤ w * least = mul-le-mul_left w (omega (arith, lesser)) in
    let here : w * result ≤ w * unit = mul-le-mul_left w (omega (arith, lesser)) in
    record {
      reached =
          ⊎_elim
          (λ (less : unit < least). (let e : result ≡ unit = omega (arith, lesser, less) in (get_or hubs x 0, next hubs x below, ap (λ n. w * n) e ∙ is)))
          (λ (no_less : least ≤ unit).
          (let e : result ≡ least = omega (arith, lesser, no_less) in
          (so_far.reached.0, kept hubs x so_far.reached.0 below so_far.reached.1, ap (λ n. w * n) e ∙ so_far.reached.2)))
          (cases_lt unit least);
      least =
          more (λ m. w * result ≤ route_cost p c.0 c.1 k m) hubs x below
          (All-weaker (λ m. w * least ≤ route_cost p c.0 c.1 k m) (λ m. w * result ≤ route_cost p c.0 c.1 k m) (λ m h. omega (arith, h, low)) (take x hubs) so_far.least)
          (omega (arith, here, is));
    }

-- ---- some first hubs

-- by unit of flow it is the least cost by way of one of these hubs first and one of those last
pub record IsLeastOver (p : Problem) (c : ℕ × ℕ) (firsts lasts : List ℕ) (unit : ℕ) : Type 0 where
  pub first : ℕ
  pub among : Contains firsts first
  pub from : IsLeastFrom p c first lasts unit
  pub least : All (λ k. All (λ m. flow p c.0 c.1 * unit ≤ route_cost p c.0 c.1 k m) lasts) firsts

pub over_one : (p : Problem) (c : ℕ × ℕ) (hubs : List ℕ) (unit : ℕ) → 1 ≤ length hubs → IsLeastFrom p c (get_or hubs 0 0) hubs unit
    → IsLeastOver p c (take 1 hubs) hubs unit
over_one p c hubs unit some is =
    let P = λ (k : ℕ). All (λ m. flow p c.0 c.1 * unit ≤ route_cost p c.0 c.1 k m) hubs in
    record {
      first = get_or hubs 0 0;
      among = next hubs 0 (omega arith);
      from = is;
      least = more P hubs 0 (omega arith) (none P hubs) is.least;
    }

pub over_more : (p : Problem) (c : ℕ × ℕ) (hubs : List ℕ) (x least unit result : ℕ) → x < length hubs
    → IsLeastOver p c (take x hubs) hubs least → IsLeastFrom p c (get_or hubs x 0) hubs unit → result ≡ min least unit
    → IsLeastOver p c (take (x + 1) hubs) hubs result
over_more p c hubs x least unit result below so_far is lesser =
    let w = flow p c.0 c.1 in
    let low : w * result ≤ w * least = mul-le-mul_left w (omega (arith, lesser)) in
    let here : w * result ≤ w * unit = mul-le-mul_left w (omega (arith, lesser)) in
    let Below = λ (u k : ℕ). All (λ m. w * u ≤ route_cost p c.0 c.1 k m) hubs in
    let lower = λ (u k : ℕ) (up : w * result ≤ w * u) (h : Below u k).
    All-weaker (λ m. w * u ≤ route_cost p c.0 c.1 k m) (λ m. w * result ≤ route_cost p c.0 c.1 k m) (λ m l. omega (arith, l, up)) hubs h in
    let all : All (Below result) (take (x + 1) hubs) =
    more (Below result) hubs x below (All-weaker (Below least) (Below result) (λ k h. lower least k low h) (take x hubs) so_far.least)
    (lower unit (get_or hubs x 0) here is.least) in
    ⊎_elim
    (λ (less : unit < least). (let e : unit ≡ result = omega (arith, lesser, less) in
    record { first = get_or hubs x 0; among = next hubs x below; from = subst (λ (u : ℕ). IsLeastFrom p c (get_or hubs x 0) hubs u) e is; least = all }))
    (λ (no_less : least ≤ unit). (let e : least ≡ result = omega (arith, lesser, no_less) in
    record {
      first = so_far.first;
      among = kept hubs x so_far.first below so_far.among;
      from = subst (λ (u : ℕ). IsLeastFrom p c so_far.first hubs u) e so_far.from;
      least = all;
    }))
    (cases_lt unit least)

pub over_all : (p : Problem) (c : ℕ × ℕ) (hubs : List ℕ) (x least : ℕ) → p.longest ≡ None → length hubs ≤ x
    → IsLeastOver p c (take x hubs) hubs least → flow p c.0 c.1 * least ≡ least_cost p hubs c
over_all p c hubs x least any long so_far =
    let w = flow p c.0 c.1 in
    let k = so_far.first in
    let in_k = subst (λ (ks : List ℕ). Contains ks k) (take_all x hubs long) so_far.among in
    let m = so_far.from.reached.0 in
    let in_m = so_far.from.reached.1 in
    let all = subst (λ (ks : List ℕ). All (λ a. All (λ b. w * least ≤ route_cost p c.0 c.1 a b) hubs) ks) (take_all x hubs long) so_far.least in
    let is : IsLeastCost p hubs c (w * least) = record {
      reached = (k, m, in_k, in_m, sym so_far.from.reached.2, any_allowed p c k m any);
      least = λ a b in_a in_b allowed.
          All-contains (λ n. w * least ≤ route_cost p c.0 c.1 a n) hubs b
          (All-contains (λ n. All (λ o. w * least ≤ route_cost p c.0 c.1 n o) hubs) hubs a all in_a) in_b;
    } in
    price_same p hubs c (w * least) (least_cost p hubs c) is
    (least_cost_is p hubs c ((k, m), record { first = in_k; last = in_m; allowed = any_allowed p c k m any }))
