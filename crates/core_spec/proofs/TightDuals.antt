-- A cut that is tight at hubs is tight in each commodity, and its hubs' routes cost what their least costs are together.
use Rattle.std.proofs.Common.{◌≡◌, ℕ, ◌+◌, ◌*◌, ◌≤◌, List, [], ◌∷◌, zip, sum_by, All, Contains, true, refl, ap, sym, subst, arith, mul-add}
use Rattle.std.specs.List.{AllZip}
use Rattle.std.proofs.lemmas.List.Elements.{All-contains, All-head, All-tail}
use Rattle.std.proofs.lemmas.List.Sums.{sum_by-cons}
use Rattle.std.proofs.lemmas.Bool.{cases_eq}
use Rattle.std.proofs.Math.Logic.{⊎_elim}
use Rattle.hub_spec.specs.Problem.{Problem, opening_cost, commodities, route_cost, is_allowed}
use Rattle.hub_spec.specs.Edges.{least_cost}
use Rattle.hub_spec.specs.Plans.{Plan, IsHubSet, IsRoute, HasRoute, IsSetCost, cost_of_route, routing_cost}
use Rattle.hub_spec.specs.Cuts.{Prices, value_at, total, Cut, IsDual, IsCut, IsTight}
use Rattle.hub_spec.proofs.SumLemmas.{sum_by-plus, sum_by-same, within_sum, two_within_sum}
use Rattle.hub_spec.proofs.SetCosts.{one_set_cost}
use Rattle.hub_spec.proofs.SetCutFunction.{least_cost_is}
use Rattle.core_spec.specs.Domination.{loads_on}
use Rattle.core_spec.specs.CoreCuts.{values_on}

-- ---- loads of nodes are the duals' values of them

pub loads_by_duals : (duals : List Prices) (nodes : List ℕ)
    → sum_by (λ k. sum_by (λ (d : Prices). value_at d.u k) duals) nodes ≡ sum_by (λ d. values_on d nodes) duals
loads_by_duals [] nodes = none nodes
  where
    none : (ks : List ℕ) → sum_by (λ k. sum_by (λ (d : Prices). value_at d.u k) []) ks ≡ 0
    none [] = refl
    none (k ∷ ks) = omega (arith, sum_by-cons (λ (m : ℕ). sum_by (λ (d : Prices). value_at d.u m) []) k ks, none ks)
loads_by_duals (d ∷ duals) nodes =
    let here = sum_by-same (λ k. sum_by (λ (e : Prices). value_at e.u k) (d ∷ duals))
    (λ k. value_at d.u k + sum_by (λ (e : Prices). value_at e.u k) duals) nodes (λ k. sum_by-cons (λ (e : Prices). value_at e.u k) d duals) in
    let split = sum_by-plus (value_at d.u) (λ k. sum_by (λ (e : Prices). value_at e.u k) duals) nodes in
    omega (arith, here, split, loads_by_duals duals nodes, sum_by-cons (λ (e : Prices). values_on e nodes) d duals)

-- ---- what the hubs' least routes cost

-- the least costs of these commodities by the hubs, together
abbrev pub least_costs : Problem → List ℕ → List (ℕ × ℕ) → ℕ
least_costs p hubs cs = sum_by (least_cost p hubs) cs

-- routes through the hubs that cost no more
record HasLeast (p : Problem) (hubs : List ℕ) (cs : List (ℕ × ℕ)) : Type 0 where
  routes : List (ℕ × ℕ)
  are : AllZip (IsRoute p hubs) cs routes
  cost : routing_cost p cs routes ≡ least_costs p hubs cs

has_least : (p : Problem) (hubs : List ℕ) (cs : List (ℕ × ℕ)) → All (HasRoute p hubs) cs → HasLeast p hubs cs
has_least p hubs [] some = record { routes = []; are = tt; cost = refl }
has_least p hubs (c ∷ cs) some =
    let here = (least_cost_is p hubs c (All-head (HasRoute p hubs) c cs some)).reached in
    let route : ℕ × ℕ = (here.0, here.1) in
    let rest = has_least p hubs cs (All-tail (HasRoute p hubs) c cs some) in
    record {
      routes = route ∷ rest.routes;
      are = (record { first = here.2; last = here.3; allowed = here.5 }, rest.are);
      cost = omega (arith, sum_by-cons (cost_of_route p) (c, route) (zip cs rest.routes), sum_by-cons (least_cost p hubs) c cs, here.4, rest.cost);
    }

least_below : (p : Problem) (hubs : List ℕ) (cs routes : List (ℕ × ℕ)) → All (HasRoute p hubs) cs → AllZip (IsRoute p hubs) cs routes
    → least_costs p hubs cs ≤ routing_cost p cs routes
least_below p hubs [] [] some taken = omega arith
least_below p hubs [] (r ∷ routes) some taken = absurd taken
least_below p hubs (c ∷ cs) [] some taken = absurd taken
least_below p hubs (c ∷ cs) (r ∷ routes) some taken =
    omega (
      arith,
      sum_by-cons (cost_of_route p) (c, r) (zip cs routes),
      sum_by-cons (least_cost p hubs) c cs,
      (least_cost_is p hubs c (All-head (HasRoute p hubs) c cs some)).least r.0 r.1 taken.0.first taken.0.last taken.0.allowed,
      least_below p hubs cs routes (All-tail (HasRoute p hubs) c cs some) taken.1,
    )

pub set_cost_by_least : (p : Problem) (hubs : List ℕ) → IsHubSet p hubs
    → IsSetCost p hubs (opening_cost p hubs + least_costs p hubs (commodities p.size))
set_cost_by_least p hubs set =
    let has = has_least p hubs (commodities p.size) set.lacks_none in
    let plan : Plan = record { hubs = hubs; routes = has.routes } in
    record {
      reached = (plan, record { hubs = set; routes = has.are }, refl, omega (arith, has.cost));
      least = λ other ok same.
          (let routes = subst (λ (hs : List ℕ). AllZip (IsRoute p hs) (commodities p.size) other.routes) same ok.routes in
          let opened = ap (opening_cost p) same in
          omega (arith, opened, least_below p hubs (commodities p.size) other.routes set.lacks_none routes));
    }

-- a tight cut says at the hubs what their least costs are together
pub tight_by_least : (p : Problem) (hubs : List ℕ) (x : Cut) → IsHubSet p hubs → IsTight p hubs x
    → total x ≡ x.part * least_costs p hubs (commodities p.size) + loads_on x hubs
tight_by_least p hubs x set tight =
    let same = one_set_cost p hubs tight.cost (opening_cost p hubs + least_costs p hubs (commodities p.size)) tight.is_cost (set_cost_by_least p hubs set) in
    let times = ap (λ n. x.part * n) same in
    omega (arith, tight.tight, times, mul-add x.part (opening_cost p hubs) (least_costs p hubs (commodities p.size)))

-- ---- in each commodity

-- a feasible dual's price is within the least cost by the hubs and its values of them
dual_below : (p : Problem) (hubs : List ℕ) (part : ℕ) (c : ℕ × ℕ) (d : Prices) → IsHubSet p hubs → HasRoute p hubs c → IsDual p part c d
    → d.a ≤ part * least_cost p hubs c + values_on d hubs
dual_below p hubs part c d set has dual =
    let here = (least_cost_is p hubs c has).reached in
    let k = here.0 in
    let m = here.1 in
    let in_k = All-contains (Contains p.candidates) hubs k set.are_candidates here.2 in
    let in_m = All-contains (Contains p.candidates) hubs m set.are_candidates here.3 in
    let cost = ap (λ n. part * n) here.4 in
    ⊎_elim
    (λ same. (let single = dual.one_hub k in_k (subst (λ (n : ℕ). is_allowed p c k n ≡ true) (sym same) here.5) in
    let e : part * route_cost p c.0 c.1 k k ≡ part * route_cost p c.0 c.1 k m = ap (λ n. part * route_cost p c.0 c.1 k n) same in
    omega (arith, single, e, cost, within_sum (value_at d.u) hubs k here.2)))
    (λ apart. (let edge = dual.two_hubs k m in_k in_m apart here.5 in
    omega (arith, edge, cost, two_within_sum (value_at d.u) hubs k m here.2 here.3 apart)))
    (cases_eq k m)

-- the dual's price is as great as that
abbrev pub IsTightDual : Problem → List ℕ → ℕ → ℕ × ℕ → Prices → Type 0
IsTightDual p hubs part c d = d.a ≡ part * least_cost p hubs c + values_on d hubs

duals_below : (p : Problem) (hubs : List ℕ) (part : ℕ) (cs : List (ℕ × ℕ)) (ds : List Prices) → IsHubSet p hubs
    → All (HasRoute p hubs) cs → AllZip (IsDual p part) cs ds
    → sum_by (λ (d : Prices). d.a) ds ≤ part * least_costs p hubs cs + sum_by (λ (d : Prices). values_on d hubs) ds
duals_below p hubs part [] [] set has duals = omega arith
duals_below p hubs part [] (d ∷ ds) set has duals = absurd duals
duals_below p hubs part (c ∷ cs) [] set has duals = absurd duals
duals_below p hubs part (c ∷ cs) (d ∷ ds) set has duals =
    let costs = ap (λ n. part * n) (sum_by-cons (least_cost p hubs) c cs) in
    omega (
      arith,
      sum_by-cons (λ (e : Prices). e.a) d ds,
      sum_by-cons (λ (e : Prices). values_on e hubs) d ds,
      costs,
      dual_below p hubs part c d set (All-head (HasRoute p hubs) c cs has) duals.0,
      duals_below p hubs part cs ds set (All-tail (HasRoute p hubs) c cs has) duals.1,
    )

-- tight in sum is tight in each
pub each_tight : (p : Problem) (hubs : List ℕ) (part : ℕ) (cs : List (ℕ × ℕ)) (ds : List Prices) → IsHubSet p hubs
    → All (HasRoute p hubs) cs → AllZip (IsDual p part) cs ds
    → sum_by (λ (d : Prices). d.a) ds ≡ part * least_costs p hubs cs + sum_by (λ (d : Prices). values_on d hubs) ds
    → AllZip (IsTightDual p hubs part) cs ds
each_tight p hubs part [] [] set has duals sum = tt
each_tight p hubs part [] (d ∷ ds) set has duals sum = absurd duals
each_tight p hubs part (c ∷ cs) [] set has duals sum = absurd duals
each_tight p hubs part (c ∷ cs) (d ∷ ds) set has duals sum =
    let costs = ap (λ n. part * n) (sum_by-cons (least_cost p hubs) c cs) in
    let prices = sum_by-cons (λ (e : Prices). e.a) d ds in
    let values = sum_by-cons (λ (e : Prices). values_on e hubs) d ds in
    let later = All-tail (HasRoute p hubs) c cs has in
    let one = dual_below p hubs part c d set (All-head (HasRoute p hubs) c cs has) duals.0 in
    let rest = duals_below p hubs part cs ds set later duals.1 in (
      omega (arith, costs, prices, values, one, rest),
      each_tight p hubs part cs ds set later duals.1 (omega (arith, costs, prices, values, one, rest)),
    )

pub tight_each : (p : Problem) (hubs : List ℕ) (x : Cut) → IsHubSet p hubs → IsCut p x → IsTight p hubs x
    → AllZip (IsTightDual p hubs x.part) (commodities p.size) x.duals
tight_each p hubs x set is_cut tight =
    each_tight p hubs x.part (commodities p.size) x.duals set set.lacks_none is_cut.duals
    (omega (arith, tight_by_least p hubs x set tight, loads_by_duals x.duals hubs))
