-- The items up to the last route.
use Rattle.std.proofs.Common.{◌≡◌, ℕ, ◌+◌, ◌*◌, ◌<◌, ◌≤◌, ◌↔◌, Bool, true, false, IsTrue, List, [], ◌∷◌, ◌++◌, length, nat_eq, None, All, Contains, refl, sym, ap, ap₂, subst, ◌∙◌, mul-pos, div-add-mod', length-append, arith}
use Rattle.std.proofs.lemmas.Bool.{eqb-true}
use Rattle.std.proofs.lemmas.List.Sums.{sum_by_push}
use Rattle.std.proofs.lemmas.List.Elements.{All-push, All-nil}
use Rattle.hub_spec.specs.Problem.{Problem, IsProblem, fixed_cost, is_allowed, commodity_at}
use Rattle.hub_spec.specs.Plans.{plan_cost, HasWanted}
use Rattle.hub_spec.specs.Ranges.{IsShort}
use Rattle.hub_spec.proofs.Commodities.{commodity_nodes}
use Rattle.cert_spec.specs.Lines.{says_version, says_size, says_cost, says_bound, says_hubs, says_route}
use Rattle.cert_spec.specs.Grammar.{Shape, want_version, want_size, want_cost, want_bound, want_hubs, want_route}
use Rattle.cert_spec.specs.Conditions.{claim, Size, BoundOverCost, Hubs, Number, Route, Length, Cost, if_time}
use Rattle.cert_spec.specs.Progress.{Progress}
use Rattle.cert_lines.specs.PlanTallies.{PlanTally, no_plan, with_hub, with_route, IsTallyOf}
use Rattle.cert_lines.proofs.PlanTallies.{costs_plan, has_route}
use Rattle.cert_conditions.specs.Steps.{ended, Ends, size_tests, bound_tests, route_tests, hubbed, routed, HubTaken}
use Rattle.cert_conditions.specs.Taken.{nothing, some_hubs, StandsFirm, HubsStand, Keeps}
use Rattle.cert_conditions.specs.declared.checks.Checks.{Checks}
use Rattle.cert_conditions.proofs.Lists.{all_front, all_last}
use Rattle.cert_conditions.proofs.Counting.{route_cases}
use Rattle.cert_conditions.proofs.Trying.{tried_cons, tried_one, tried_time}
use Rattle.cert_conditions.proofs.Kept.{Closed, Grown}

pub close_version : (c : Checks) (s : Progress) (v : ℕ) (new : Checks) → StandsFirm c s → Keeps c s want_version nothing
    → new ≡ ended c None → Closed c s want_version (says_version v) new
close_version c s v new st k h =
    record { kept = c; found = None; is = h; same = refl; line_is = refl; tried = tt; keeps = λ all. (st, k) }

pub close_size : (c : Checks) (s : Progress) (v n q : ℕ) (new : Checks) → c.line ≡ s.line → StandsFirm c s → Keeps c s (want_size v) nothing
    → Ends (size_tests c n q) c new → Closed c s (want_size v) (says_size n q) new
close_size c s v n q new e st k h =
    let P : Type 0 = (n ≡ c.instance.now.size) × (q ≡ length c.instance.now.candidates) in
    record {
      kept = c;
      found = h.found;
      is = h.is;
      same = refl;
      line_is = refl;
      tried = tried_one Size c.line s.line c.line P P h.found e (λ x. x) (λ x. x) h.tried;
      keeps = λ all. (st, (record { said_is = all.0.0; wanted_is = all.0.0 }, k.0, k.1));
    }

pub close_cost : (c : Checks) (s : Progress) (sh : Shape) (v : ℕ) (new : Checks) → StandsFirm c s → Keeps c s (want_cost sh) nothing
    → new ≡ ended (record c { cost = v }) None → Closed c s (want_cost sh) (says_cost v) new
close_cost c s sh v new st k h = record {
  kept = record c { cost = v };
  found = None;
  is = h;
  same = refl;
  line_is = refl;
  tried = tt;
  keeps = λ all. (
    record {
      problem = st.problem;
      dual_is = st.dual_is;
      proof_is = st.proof_is;
      size_is = st.size_is;
      candidates_are = st.candidates_are;
      long = st.long;
      cost_is = refl;
      bound_is = st.bound_is;
      short = st.short;
    },
    k,
  );
}

plan_begun : (p : Problem) → IsTallyOf p [] [] (no_plan p.size)
plan_begun p = record { size_is = refl; hubs_are = refl; routed_is = refl; cost_is = refl }

pub close_bound : (c : Checks) (s : Progress) (sh : Shape) (v : ℕ) (new : Checks) → c.line ≡ s.line → IsShort v → StandsFirm c s
    → Keeps c s (want_bound sh) nothing → Ends (bound_tests (record c { bound = v })) (record c { bound = v }) new
    → Closed c s (want_bound sh) (says_bound v) new
close_bound c s sh v new e short st k h = record {
  kept = record c { bound = v };
  found = h.found;
  is = h.is;
  same = refl;
  line_is = refl;
  tried = tried_one BoundOverCost c.line s.line c.line (v ≤ c.cost) (v ≤ s.cost) h.found e (λ x. omega (arith, st.cost_is)) (λ x. omega (arith, st.cost_is)) h.tried;
  keeps = λ all. (
    record {
      problem = st.problem;
      dual_is = st.dual_is;
      proof_is = st.proof_is;
      size_is = st.size_is;
      candidates_are = st.candidates_are;
      long = st.long;
      cost_is = st.cost_is;
      bound_is = refl;
      short = short;
    },
    (
      k.0,
      record {
        no_route = k.1.no_route;
        tally = subst (IsTallyOf c.instance.now [] []) (sym k.1.tally) (plan_begun c.instance.now);
        known = (λ t. All-nil (Contains c.instance.now.candidates), λ a. k.1.known);
      },
      k.2,
    ),
  );
}

-- ---- hubs

has_hub : (p : Problem) (hubs : List ℕ) (tally : PlanTally) (k : ℕ) → IsTallyOf p hubs [] tally → IsTallyOf p (hubs ++ k ∷ []) [] (with_hub p tally k)
has_hub p hubs tally k h = record {
  size_is = h.size_is;
  hubs_are = ap (λ l. l ++ k ∷ []) h.hubs_are;
  routed_is = h.routed_is;
  cost_is = omega (arith, h.cost_is, sum_by_push (fixed_cost p) hubs k);
}

hubs_more : (p : Problem) (hubs : List ℕ) (k : ℕ) (routes : List (ℕ × ℕ)) (plan : PlanTally) (old are : Bool) → HubsStand p hubs routes plan old
    → (IsTrue are ↔ (IsTrue old × Contains p.candidates k)) → HubsStand p (hubs ++ k ∷ []) routes (with_hub p plan k) are
hubs_more p hubs k routes plan old are h known = record {
  no_route = h.no_route;
  tally = has_hub p hubs plan k h.tally;
  known = (
    λ t. let both = known.0 t in
        All-push (Contains p.candidates) hubs k (h.known.0 both.0) both.1,
    λ a. known.1 (h.known.1 (all_front (Contains p.candidates) hubs k a), all_last (Contains p.candidates) hubs k a),
  );
}

pub grow_hub : (c : Checks) (s : Progress) (sh : Shape) (front : List ℕ) (k : ℕ) (new : Checks) → StandsFirm c s
    → Keeps c s (want_hubs sh) (some_hubs front) → HubTaken c k false new → Grown c s (want_hubs sh) (some_hubs (front ++ k ∷ [])) new
grow_hub c s sh front k new st keeps h =
    subst (λ (x : Checks). Grown c s (want_hubs sh) (some_hubs (front ++ k ∷ [])) x) (sym h.goes)
    (record {
      same = refl;
      line_is = refl;
      failure_is = refl;
      firm = st;
      keeps = (keeps.0, hubs_more c.instance.now front k s.routes c.plan c.are_candidates h.are keeps.1 h.known, keeps.2);
    })

some_square : (p : Problem) → IsProblem p → 0 < p.size * p.size
some_square p ok = mul-pos ok.some_node ok.some_node

pub close_hubs : (c : Checks) (s : Progress) (sh : Shape) (front : List ℕ) (k : ℕ) (new : Checks) → c.line ≡ s.line → StandsFirm c s
    → Keeps c s (want_hubs sh) (some_hubs front) → HubTaken c k true new → Closed c s (want_hubs sh) (says_hubs (front ++ k ∷ [])) new
close_hubs c s sh front k new e st keeps h =
    let p = c.instance.now in
    let hubs = front ++ k ∷ [] in
    let more = hubs_more p front k s.routes c.plan c.are_candidates h.are keeps.1 h.known in
    record {
      kept = hubbed c k h.are;
      found = h.goes.found;
      is = h.goes.is;
      same = refl;
      line_is = refl;
      tried = tried_cons Hubs c.line s.line c.line (IsTrue h.are) (All (Contains p.candidates) hubs)
          (claim Number c.line (HasWanted p (with_hub p c.plan k).hubs) ∷ []) (claim Number s.line (HasWanted p hubs) ∷ []) h.goes.found e
          more.known.0 more.known.1
          (λ are. tried_one Number c.line s.line c.line (HasWanted p (with_hub p c.plan k).hubs) (HasWanted p hubs) h.goes.found e
          (subst (HasWanted p) more.tally.hubs_are) (subst (HasWanted p) (sym more.tally.hubs_are))) h.goes.tried;
      keeps = λ all. (
        st,
        (
          keeps.0,
          record {
            tally = subst (λ (r : List (ℕ × ℕ)). IsTallyOf p (front ++ k ∷ []) r (with_hub p c.plan k)) (sym more.no_route) more.tally;
            count = ap length more.no_route;
            more = some_square p st.problem;
          },
          keeps.2,
        ),
      );
    }

-- ---- routes

-- the next commodity, its nodes and its place
pub record IsNext (n t : ℕ) (commodity : ℕ × ℕ) : Type 0 where
  pub from : commodity.0 < n
  pub to : commodity.1 < n
  pub place : commodity.0 * n + commodity.1 ≡ t

pub next_commodity : (n m t : ℕ) (commodity : ℕ × ℕ) → m ≡ n → t < n * n → commodity ≡ commodity_at m t → IsNext n t commodity
next_commodity n m t commodity e below at =
    subst (IsNext n t) (sym (at ∙ ap (λ x. commodity_at x t) e))
    (let nodes = commodity_nodes n t below in
    record { from = nodes.0; to = nodes.1; place = div-add-mod' t n })

pub close_route : (c : Checks) (s : Progress) (sh : Shape) (t : ℕ) (commodity route : ℕ × ℕ) (new : Checks) → c.line ≡ s.line
    → commodity ≡ commodity_at sh.size t → StandsFirm c s → Keeps c s (want_route sh t) nothing
    → Ends (route_tests (routed c commodity route) commodity route) (routed c commodity route) new → Closed c s (want_route sh t) (says_route commodity route) new
close_route c s sh t commodity route new e at st keeps h =
    let p = c.instance.now in
    let next = next_commodity p.size sh.size t commodity keeps.0.wanted_is keeps.1.more at in
    let before = keeps.1.tally in
    let routes = s.routes ++ route ∷ [] in
    let tally : PlanTally = with_route p c.plan commodity route in
    let count : length routes ≡ t + 1 = omega (arith, length-append s.routes (route ∷ []), keeps.1.count) in
    let is = has_route p s.hubs s.routes c.plan commodity route before next.from next.to (next.place ∙ sym (before.routed_is ∙ keeps.1.count)) in
    let sizes : p.size * p.size ≡ s.size * s.size = ap (λ n. n * n) (sym keeps.0.said_is) in
    let square : sh.size * sh.size ≡ p.size * p.size = ap (λ n. n * n) keeps.0.wanted_is in
    let all_routed : length routes ≡ s.size * s.size → tally.cost ≡ plan_cost p (record { hubs = s.hubs; routes = routes }) =
    λ whole. costs_plan p s.hubs routes tally is (is.routed_is ∙ whole ∙ sym sizes) in
    let cost_of_kept = if_time (nat_eq tally.routed (tally.size * tally.size)) (claim Cost c.line (c.cost ≡ tally.cost)) in
    let cost_of_lines =
    if_time (nat_eq (length routes) (s.size * s.size)) (claim Cost s.line (s.cost ≡ plan_cost p (record { hubs = s.hubs; routes = routes }))) in
    record {
      kept = routed c commodity route;
      found = h.found;
      is = h.is;
      same = refl;
      line_is = refl;
      tried = tried_cons Route c.line s.line c.line (Contains c.plan.hubs route.0 × Contains c.plan.hubs route.1) (Contains s.hubs route.0 × Contains s.hubs route.1)
          (claim Length c.line (is_allowed p commodity route.0 route.1 ≡ true) ∷ cost_of_kept)
          (claim Length s.line (is_allowed p commodity route.0 route.1 ≡ true) ∷ cost_of_lines) h.found e
          (subst (λ (l : List ℕ). Contains l route.0 × Contains l route.1) before.hubs_are)
          (subst (λ (l : List ℕ). Contains l route.0 × Contains l route.1) (sym before.hubs_are))
          (λ through. tried_cons Length c.line s.line c.line (is_allowed p commodity route.0 route.1 ≡ true) (is_allowed p commodity route.0 route.1 ≡ true)
          cost_of_kept cost_of_lines h.found e (λ x. x) (λ x. x)
          (λ short. tried_time (nat_eq tally.routed (tally.size * tally.size)) (nat_eq (length routes) (s.size * s.size)) Cost c.line s.line c.line
          (c.cost ≡ tally.cost) (s.cost ≡ plan_cost p (record { hubs = s.hubs; routes = routes })) h.found
          (ap₂ nat_eq is.routed_is (ap (λ n. n * n) before.size_is ∙ sizes)) e
          (λ whole x. sym st.cost_is ∙ x ∙ all_routed (eqb-true (length routes) (s.size * s.size) whole))
          (λ whole x. st.cost_is ∙ x ∙ sym (all_routed (eqb-true (length routes) (s.size * s.size) whole)))))
          h.tried;
      keeps = λ all. (
        st,
        route_cases (λ g. Keeps (routed c commodity route) (record s { line = s.line + 1; routes = routes }) g nothing) sh (t + 1)
            (λ whole. (keeps.0, keeps.2))
            (λ part. (keeps.0, record { tally = is; count = count; more = omega (arith, keeps.1.more, part, square) }, keeps.2)),
      );
    }
