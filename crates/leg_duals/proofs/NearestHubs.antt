-- Which commodities are served, by how far the last hubs are.
use Rattle.std.proofs.Common.{◌≡◌, ℕ, ◌+◌, ◌*◌, ◌<◌, ◌≤◌, true, false, min, List, length, set, get_or, slice_index, All, Contains, Some, None, ⊎_elim, sym, subst, ap, ◌∙◌, arith}
use Rattle.std.proofs.lemmas.Bool.{cases_lt}
use Rattle.std.proofs.lemmas.List.{get_or_default, get_or-set_same, get_or-set_other}
use Rattle.std.proofs.lemmas.List.Elements.{All-contains, All-weaker, All-from_get_or, Contains-get_or}
use Rattle.hub_spec.specs.Limits.{most_distance}
use Rattle.hub_spec.specs.Problem.{Problem, IsProblem, flow, distance, commodities}
use Rattle.hub_spec.specs.Plans.{IsRoute, HasRoute, IsCandidateSet}
use Rattle.hub_spec.specs.Lacking.{serves, lacking}
use Rattle.hub_spec.proofs.Lacking.{serves_when, when_serves, lacked_none}
use Rattle.hub_spec.proofs.Limits.{few_candidates}
use Rattle.hub_spec.proofs.PlanCosts.{any_allowed}
use Rattle.hub_spec.proofs.SumLemmas.{by_test}
use Rattle.leg_duals.proofs.StopRoutes.{no_flow_allowed}
use Rattle.leg_duals.specs.Ways.{longest_way}
use Rattle.leg_duals.specs.Nearest.{IsNearest, AreNearest}
use Rattle.leg_duals.proofs.AllowedWays.{near_allowed, allowed_near}

-- candidates are nodes
pub members_are_nodes : (p : Problem) (hubs : List ℕ) → IsProblem p → IsCandidateSet p hubs → All (λ k. k < p.size) hubs
members_are_nodes p hubs ok set =
    All-weaker (Contains p.candidates) (λ k. k < p.size)
    (λ k candidate. All-contains (λ m. m < p.size) p.candidates k ok.candidates_are_nodes candidate) hubs set.are_candidates

pub member_is_node : (p : Problem) (hubs : List ℕ) (y : ℕ) → IsProblem p → IsCandidateSet p hubs → y < length hubs → slice_index hubs y < p.size
member_is_node p hubs y ok set below = All-contains (λ k. k < p.size) hubs (slice_index hubs y) (members_are_nodes p hubs ok set) (Contains-get_or hubs y 0 below)

-- a commodity without flow is served
pub no_flow_served : (p : Problem) (hubs : List ℕ) (i j : ℕ) → IsCandidateSet p hubs → flow p i j ≡ 0 → serves p hubs (i, j) ≡ true
no_flow_served p hubs i j set none =
    let k = slice_index hubs 0 in
    let hub = Contains-get_or hubs 0 0 set.some_hub in
    when_serves p hubs (i, j) (k, k) (record { first = hub; last = hub; allowed = no_flow_allowed p i j k k none })

-- by a last hub that is near enough
pub served_by : (p : Problem) (hubs : List ℕ) (i j most y : ℕ) (nearest : List ℕ) → IsProblem p → IsCandidateSet p hubs → p.longest ≡ Some most
    → i < p.size → j < p.size → AreNearest p hubs i nearest → y < length hubs
    → slice_index nearest y + distance p (slice_index hubs y) j ≤ most → serves p hubs (i, j) ≡ true
served_by p hubs i j most y nearest ok set limit from to are below near =
    let m = slice_index hubs y in
    let first = (are.each y below).reached in
    let one = All-contains (λ k. k < p.size) hubs first.0 (members_are_nodes p hubs ok set) first.1 in
    let two = member_is_node p hubs y ok set below in
    when_serves p hubs (i, j) (first.0, m) (record {
      first = first.1;
      last = Contains-get_or hubs y 0 below;
      allowed = near_allowed p i j first.0 m ok from to one two (omega (arith, near, first.2, ap longest_way limit));
    })

-- no last hub is near enough
pub served_by_none : (p : Problem) (hubs : List ℕ) (i j most : ℕ) (nearest : List ℕ) → IsProblem p → IsCandidateSet p hubs → p.longest ≡ Some most
    → i < p.size → j < p.size → 1 ≤ flow p i j → AreNearest p hubs i nearest
    → ((y : ℕ) → y < length hubs → most < slice_index nearest y + distance p (slice_index hubs y) j) → serves p hubs (i, j) ≡ false
served_by_none p hubs i j most nearest ok set limit from to some are far = by_test (serves p hubs (i, j))
    (λ yes. absurd (none (serves_when p hubs (i, j) yes))) (λ no. no)
  where
    none : (r : ℕ × ℕ) × IsRoute p hubs (i, j) r → ⊥
    none has =
        let y = has.1.last in
        let at : slice_index hubs y.0 ≡ has.0.1 = get_or_default hubs y.0 0 has.0.1 y.1 ∙ y.2 in
        let one = All-contains (λ k. k < p.size) hubs has.0.0 (members_are_nodes p hubs ok set) has.1.first in
        let two = All-contains (λ k. k < p.size) hubs has.0.1 (members_are_nodes p hubs ok set) has.1.last in
        let near = allowed_near p i j has.0.0 has.0.1 ok from to one two some has.1.allowed in
        let least = (are.each y.0 y.1).least has.0.0 has.1.first in
        let beyond = far y.0 y.1 in
        let step = ap (λ (m : ℕ). distance p has.0.0 m) at in
        let last = ap (λ (m : ℕ). distance p m j) at in
        omega (arith, near, least, beyond, step, last, ap longest_way limit)

-- ---- the nearest way to a last hub, hub by hub

-- how far it is at least by the first hubs before the place x, or by some hub
pub record IsNearestSoFar (p : Problem) (hubs : List ℕ) (i m x v : ℕ) : Type 0 where
  pub reached : (k : ℕ) × Contains hubs k × (distance p i k + distance p k m ≡ v)
  pub least : (y : ℕ) → y < x → v ≤ distance p i (slice_index hubs y) + distance p (slice_index hubs y) m
  pub limit : v ≤ 2 * most_distance

pub nearest_more : (p : Problem) (hubs : List ℕ) (i m x v by next : ℕ) → x < length hubs
    → by ≡ distance p i (slice_index hubs x) + distance p (slice_index hubs x) m → next ≡ min v by → IsNearestSoFar p hubs i m x v
    → IsNearestSoFar p hubs i m (x + 1) next
nearest_more p hubs i m x v by next within is least so_far = record {
  reached = ⊎_elim (λ (less : by < v). (slice_index hubs x, Contains-get_or hubs x 0 within, omega (arith, is, least, less)))
      (λ (above : v ≤ by). (so_far.reached.0, so_far.reached.1, omega (arith, so_far.reached.2, least, above))) (cases_lt by v);
  least = λ y below. ⊎_elim (λ early. omega (arith, so_far.least y early, least))
      (λ (late : x ≤ y). (let same : x ≡ y = omega (arith, late, below) in
      subst (λ (z : ℕ). next ≤ distance p i (slice_index hubs z) + distance p (slice_index hubs z) m) same (omega (arith, is, least)))) (cases_lt y x);
  limit = omega (arith, so_far.limit, least);
}

pub nearest_all : (p : Problem) (hubs : List ℕ) (i m x v : ℕ) → length hubs ≤ x → IsNearestSoFar p hubs i m x v → IsNearest p hubs i m v
nearest_all p hubs i m x v all so_far = record {
  reached = so_far.reached;
  least = λ k hub. (let same : slice_index hubs hub.0 ≡ k = get_or_default hubs hub.0 0 k hub.1 ∙ hub.2 in
      subst (λ (z : ℕ). v ≤ distance p i z + distance p z m) same (so_far.least hub.0 (omega (arith, hub.1, all))));
  limit = so_far.limit;
}

-- one more last hub
pub nearest_set : (p : Problem) (hubs : List ℕ) (i y v : ℕ) (nearest : List ℕ) → y < length nearest → IsNearest p hubs i (slice_index hubs y) v
    → ((x : ℕ) → x < y → IsNearest p hubs i (slice_index hubs x) (slice_index nearest x)) → (x : ℕ) → x < y + 1
    → IsNearest p hubs i (slice_index hubs x) (slice_index (set nearest y v) x)
nearest_set p hubs i y v nearest within here before x below = ⊎_elim
    (λ (early : x < y). rw (get_or-set_other nearest y x v 0 (λ e. omega (arith, e, early))) (before x early))
    (λ (late : y ≤ x). (let same : y ≡ x = omega (arith, late, below) in
    subst (λ (z : ℕ). IsNearest p hubs i (slice_index hubs z) (slice_index (set nearest y v) z)) same
    (rw (get_or-set_same nearest y v 0 within) here))) (cases_lt x y)

-- there are no more hubs than nodes
pub few_members : (p : Problem) (hubs : List ℕ) → IsProblem p → IsCandidateSet p hubs → length hubs ≤ p.size
few_members p hubs ok set = few_candidates hubs p.size set.ascend (members_are_nodes p hubs ok set)

-- where no length is limited none is lacked
pub none_lacked_any : (p : Problem) (hubs : List ℕ) → IsCandidateSet p hubs → p.longest ≡ None → None ≡ lacking p hubs
unfolding lacking
none_lacked_any p hubs set any = sym (lacked_none p hubs (commodities p.size) (All-from_get_or (HasRoute p hubs) (commodities p.size) (0, 0)
    (λ n below. (let k = slice_index hubs 0 in let hub = Contains-get_or hubs 0 0 set.some_hub in
    ((k, k), record { first = hub; last = hub; allowed = any_allowed p (get_or (commodities p.size) n (0, 0)) k k any })))))
