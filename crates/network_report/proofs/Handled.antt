-- The flows that hubs take up or give out, in a loop over the routes.
use Rattle.std.proofs.Common.{◌≡◌, ℕ, zero, suc, ◌+◌, ◌*◌, ◌<◌, ◌≤◌, Bool, cond, nat_eq, List, [], ◌∷◌, length, get_or, set, take, replicate, sum_by, filter, refl, sym, ap, ◌∙◌, ⊎_elim, eqb-true, arith}
use Rattle.std.proofs.lemmas.Bool.{cases_lt, eqb-false}
use Rattle.std.proofs.lemmas.Nat.{mul-le}
use Rattle.std.proofs.lemmas.List.{get_or-set_same, get_or-set_other, get_or_past, length-take-le}
use Rattle.std.proofs.lemmas.List.Elements.{All-get_or, filter_more}
use Rattle.std.proofs.lemmas.List.Sums.{sum_by-append, sum_by-le}
use Rattle.hub_spec.specs.Limits.{most_flow}
use Rattle.hub_spec.specs.Problem.{Problem, flow, IsProblem}
use Rattle.hub_spec.specs.Plans.{Plan, IsPlan}
use Rattle.hub_spec.proofs.Limits.{hubs_are_nodes}
use Rattle.hub_spec.proofs.SumLemmas.{by_test, sum_by-filter-le}
use Rattle.network_report.specs.Parts.{routed, flow_on}
use Rattle.network_report.proofs.PlanParts.{Routed, here, few, within, routed_here}

pub flow_limit : (p : Problem) (i j : ℕ) → IsProblem p → flow p i j ≤ most_flow
unfolding flow
flow_limit p i j ok =
    ⊎_elim (λ below. All-get_or (λ w. w ≤ most_flow) p.flows (i * p.size + j) 0 below ok.flow_limit)
    (λ past. omega (arith, get_or_past p.flows (i * p.size + j) 0 past)) (cases_lt (i * p.size + j) (length p.flows))

-- the flow on those of the first t commodities that pass a test
abbrev pub flow_so_far : (Routed → Bool) → Problem → Plan → ℕ → ℕ
flow_so_far q p plan t = sum_by (flow_on p) (filter q (take t (routed p plan)))

flow_of_one : (p : Problem) (q : Routed → Bool) (x : Routed) → sum_by (flow_on p) (cond (q x) (x ∷ []) []) ≡ cond (q x) (flow_on p x) 0
flow_of_one p q x = by_test (q x) (λ e. rw e (omega arith)) (λ e. rw e refl)

-- the routes are the plan's
module _ (p : Problem) (plan : Plan) (routes : List (ℕ × ℕ)) (t : ℕ) (is_plan : IsPlan p plan) (same : routes ≡ plan.routes) where
  abbrev this : Routed
  this = here p plan routes t is_plan same

  pub flow_more : (q : Routed → Bool) → t < length routes
      → flow_so_far q p plan (t + 1) ≡ flow_so_far q p plan t + cond (q this) (flow_on p this) 0
  flow_more q below =
      let xs = routed p plan in
      let none : Routed = ((0, 0), (0, 0)) in
      ap (sum_by (flow_on p)) (filter_more q xs t none (within p plan routes t is_plan same below))
      ∙ sum_by-append (flow_on p) (filter q (take t xs)) (cond (q (get_or xs t none)) (get_or xs t none ∷ []) [])
      ∙ ap (λ (x : Routed). flow_so_far q p plan t + sum_by (flow_on p) (cond (q x) (x ∷ []) [])) (routed_here p plan routes t is_plan same below)
      ∙ ap (λ n. flow_so_far q p plan t + n) (flow_of_one p q this)

  pub flow_fits : (q : Routed → Bool) → IsProblem p → t < length routes → flow_so_far q p plan t ≤ 40000 * most_flow
  flow_fits q ok below =
      let xs = take t (routed p plan) in
      let part = sum_by-filter-le (flow_on p) q xs in
      let all = sum_by-le (flow_on p) most_flow xs (λ k d l. flow_limit p (get_or xs k d).0.0 (get_or xs k d).0.1 ok) in
      let long = length-take-le t (routed p plan) (omega (arith, within p plan routes t is_plan same below)) in
      let most = mul-le (length xs) most_flow 40000 most_flow (omega (arith, long, few p plan routes t is_plan same ok below)) (omega arith) in
      omega (arith, part, all, most)

-- each hub has its place in a table
pub hub_below : (p : Problem) (plan : Plan) (hubs : List ℕ) (i : ℕ) → IsProblem p → IsPlan p plan → hubs ≡ plan.hubs → i < length hubs
    → get_or hubs i 0 < 200
hub_below p plan hubs i ok is_plan same below =
    let is = ap (λ (hs : List ℕ). get_or hs i 0) same in
    let node = All-get_or (λ k. k < p.size) plan.hubs i 0 (omega (arith, ap length same)) (hubs_are_nodes p plan.hubs ok.limits is_plan.hubs) in
    omega (arith, is, node, ok.size_limit)

-- ---- a table of numbers

pub no_flow : (n k : ℕ) → ◌≡◌ {A = ℕ} (get_or (replicate n 0) k 0) 0
no_flow zero k = refl
no_flow (suc n) zero = refl
no_flow (suc n) (suc k) = no_flow n k

-- a number added at a place
pub added_at : (xs : List ℕ) (i w k : ℕ) → i < length xs
    → get_or (set xs i (get_or xs i 0 + w)) k 0 ≡ get_or xs k 0 + cond (nat_eq i k) w 0
added_at xs i w k below =
    by_test (nat_eq i k)
    (λ e. let same : i ≡ k = eqb-true i k e in
    rw e (ap (λ m. get_or (set xs i (get_or xs i 0 + w)) m 0) (sym same) ∙ get_or-set_same xs i (get_or xs i 0 + w) 0 below
    ∙ ap (λ m. get_or xs m 0 + w) same))
    (λ e. rw e (get_or-set_other xs i k (get_or xs i 0 + w) 0 (λ same. eqb-false i k e (sym same)) ∙ omega arith))
