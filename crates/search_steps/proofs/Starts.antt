-- The start of a search.
use Rattle.std.proofs.Common.{◌≡◌, ◌≢◌, ℕ, ◌<◌, ◌≤◌, true, false, not, nat_eq, List, [], ◌∷◌, ◌++◌, length, take, filter, All, Option, Some, None, refl, ap, ap₂, sym, subst, ◌∙◌, ne_eqb, arith}
use Rattle.std.proofs.lemmas.List.{length-map, length-take-le}
use Rattle.std.proofs.lemmas.List.Elements.{All-nil, All-cons, All-head, All-tail}
use Rattle.std.proofs.lemmas.Bool.{eqb-false}
use Rattle.std.proofs.lemmas.Option.{same_Some}
use Rattle.std.specs.Prelude.{IfSome}
use Rattle.hub_spec.proofs.SumLemmas.{by_test}
use Rattle.hub_spec.specs.Limits.{most_cost}
use Rattle.hub_spec.specs.Problem.{Problem, IsProblem}
use Rattle.hub_spec.specs.Plans.{IsHubSet}
use Rattle.hub_spec.specs.Separation.{IsOrder}
use Rattle.hub_spec.proofs.Limits.{plan_cost_limit}
use Rattle.hub_spec.proofs.Sets.{filter_same}
use Rattle.cut_pool.specs.Entries.{Entry, Lacks}
use Rattle.search_spec.specs.States.{State}
use Rattle.search_spec.specs.Steps.{begun}
use Rattle.search_spec.specs.Choices.{others, has_node, begun_for}
use Rattle.search_spec.specs.Costs.{least_of, first_hubs}
use Rattle.search_spec.proofs.RuleParts.{has_when}
use Rattle.search_steps.specs.Pools.{IsSumsOf, pool_sets, pool_cuts, pool_marks, state_by}
use Rattle.search_core.specs.declared.tasks.Task.{Task}
use Rattle.search_steps.specs.declared.progress.Progress.{Progress}
use Rattle.cut_pool.specs.Kept.{kept_set}
use Rattle.search_steps.specs.Advising.{parts_of}
use Rattle.search_steps.specs.Kinds.{CutKind, minimal, parts_for}
use Rattle.search_steps.specs.Progressing.{state_of, IsGoing}
use Rattle.search_steps.specs.Separating.{HasCut}
use Rattle.search_steps.proofs.RuleChoices.{parts_sound}
use Rattle.search_steps.proofs.FoundCertificates.{start_for_is}
use Rattle.search_steps.proofs.Orders.{parts_ascending}
use Rattle.search_steps.proofs.AddedCuts.{more_sets, more_cuts, more_marks, more_pool, more_long, HasSameTree, cut_going}

-- ---- the start

filter_nothing : (ks : List ℕ) → filter (λ k. false) ks ≡ []
filter_nothing [] = refl
filter_nothing (k ∷ ks) = filter_nothing ks

-- no candidate is outside all candidates
none_outside : (p : Problem) → others p p.candidates ≡ []
unfolding others
none_outside p = filter_same (λ k. not (has_node p.candidates k)) (λ k. false) p.candidates (λ k c. ap not (has_when p.candidates k c)) ∙ filter_nothing p.candidates

pub all_order : (p : Problem) (set order : List ℕ) → IsProblem p → IsHubSet p set → set ≡ p.candidates → order ≡ [] → IsOrder p set order
all_order p set order ok is_set all none =
    let ascending = (parts_sound p ok).ascending set is_set in
    subst (IsOrder p set) (parts_ascending p set ∙ ap (others p) all ∙ none_outside p ∙ sym none) ascending

pub all_candidates : (p : Problem) (set : List ℕ) → IsHubSet p p.candidates → set ≡ p.candidates → IsHubSet p set
all_candidates p set all same = subst (IsHubSet p) (sym same) all

-- the first cut is that of all candidates
pub first_state : (kind : CutKind) (p : Problem) (more : List Entry) (hubs set order : List ℕ) (price : ℕ) → IsProblem p → IsHubSet p set
    → HasCut kind p [] more set order price → hubs ≡ p.candidates → set ≡ p.candidates → order ≡ []
    → state_by p more hubs price 1 None ≡ begun p (parts_for kind p)
unfolding begun
first_state kind p more hubs set order price ok is_set cut same all none =
    let parts = parts_for kind p in
    let sets = more_sets kind p [] more set order price ok is_set cut ∙ ap (λ (x : List ℕ). Some x ∷ []) all in
    let ascending : order ≡ parts.ascending p.candidates = none ∙ sym (parts_ascending p p.candidates ∙ none_outside p) in
    let cuts = more_cuts kind p [] more set order price ok is_set cut ∙ ap₂ (λ (x y : List ℕ). parts.cut x y ∷ []) all ascending in
    let marks = more_marks kind p [] more set order price ok is_set cut ∙ ap (λ (x : List ℕ). parts.mark x ∷ []) all in
    let costs = cut.cost ∙ ap parts.cost all in
    λ i. record { sets = sets i; cuts = cuts i; marks = marks i; hubs = same i; cost = costs i; made = 1; stop = None }

cost_limit : (p : Problem) (set : List ℕ) → IsProblem p → IsHubSet p set → (parts_of p).cost set ≤ most_cost
cost_limit p set ok is_set =
    let least = ((parts_sound p ok).cost set is_set).reached in
    omega (arith, plan_cost_limit p least.0 ok least.1, least.3)

pub first_going : (kind : CutKind) (t : Task) (after : Progress) (set order : List ℕ) → IsProblem t.instance.now
    → HasCut kind t.instance.now [] after.pool.entries set order after.cost → IsHubSet t.instance.now set → IsHubSet t.instance.now after.hubs
    → after.lines.items ≡ [] → after.made ≡ 1 → IsGoing t after
first_going kind t after set order ok cut is_set hubs none one =
    let p = t.instance.now in record {
      problem = ok;
      pool = more_pool kind p [] after.pool.entries set order after.cost cut (All-nil (IsSumsOf p));
      few_cuts = omega (arith, more_long kind p [] after.pool.entries set order after.cost cut);
      few_lines = omega (arith, ap length none);
      hubs = hubs;
      cost = omega (arith, cut.cost, cost_limit p set ok is_set);
      made = omega (arith, one);
    }

-- ---- the first set

-- the set has the first n candidates, where exactly n hubs are wanted, and these are not all candidates
pub record IsLeast (p : Problem) (set : List ℕ) : Type 0 where
  n : ℕ
  wanted : p.wanted ≡ Some n
  part : nat_eq n (length p.candidates) ≡ false
  is : set ≡ take n p.candidates

pub least_is : (p : Problem) (set : List ℕ) → set ≡ first_hubs p → length set < length p.candidates → IsLeast p set
least_is p set told fewer = by p.wanted refl told
  where
    by : (wanted : Option ℕ) → p.wanted ≡ wanted → set ≡ least_of wanted p.candidates → IsLeast p set
    by None e same = absurd (omega (arith, fewer, ap length same))
    by (Some n) e same = record {
      n = n;
      wanted = e;
      part = ne_eqb n (length p.candidates) (λ all. omega (arith, fewer, ap length same, all, length-take-le n p.candidates (omega (arith, all))));
      is = same;
    }

-- the state that a search begins with, where there is one
start_least : (kind : CutKind) (p : Problem) (set : List ℕ) (least : IsLeast p set)
    → begun_for p (parts_for kind p) p.wanted ≡ record (begun p (parts_for kind p)) {
      sets = Some p.candidates ∷ Some (take least.n p.candidates) ∷ [];
      cuts = (parts_for kind p).cut p.candidates ((parts_for kind p).ascending p.candidates)
          ∷ (parts_for kind p).cut (take least.n p.candidates) ((parts_for kind p).ascending (take least.n p.candidates)) ∷ [];
      marks = (parts_for kind p).mark p.candidates ∷ (parts_for kind p).mark (take least.n p.candidates) ∷ [];
      hubs = take least.n p.candidates;
      cost = (parts_for kind p).cost (take least.n p.candidates);
    }
unfolding begun_for
start_least kind p set least =
    let part = least.part in
    ap (λ (o : Option ℕ). begun_for p (parts_for kind p) o) least.wanted ∙ rw part refl

-- and where there is none
pub begun_alone : (kind : CutKind) (p : Problem) → IsProblem p → (length (first_hubs p) < length p.candidates → ⊥)
    → begun p (parts_for kind p) ≡ begun_for p (parts_for kind p) p.wanted
unfolding begun_for
begun_alone kind p ok all = by p.wanted refl
  where
    whole : (n : ℕ) → nat_eq n (length p.candidates) ≡ true → begun p (parts_for kind p) ≡ begun_for p (parts_for kind p) (Some n)
    whole n t = rw t refl

    by : (wanted : Option ℕ) → p.wanted ≡ wanted → begun p (parts_for kind p) ≡ begun_for p (parts_for kind p) p.wanted
    by None e = ap (λ (o : Option ℕ). begun_for p (parts_for kind p) o) (sym e)
    by (Some n) e =
        let limit = subst (λ (o : Option ℕ). IfSome o (λ n. (1 ≤ n) × (n ≤ length p.candidates))) e ok.wanted_limit in
        let many = ap (λ (o : Option ℕ). length (least_of o p.candidates)) e ∙ length-take-le n p.candidates limit.1 in
        by_test (nat_eq n (length p.candidates)) (λ t. whole n t ∙ ap (λ (o : Option ℕ). begun_for p (parts_for kind p) o) (sym e))
        (λ t. absurd (all (omega (arith, many, limit.1, eqb-false n (length p.candidates) t))))

pub least_set : (p : Problem) (hubs set : List ℕ) → IsProblem p → IsHubSet p p.candidates → IsLeast p hubs → set ≡ hubs → IsHubSet p set
least_set p hubs set ok all least same =
    let start = start_for_is minimal p (record { problem = ok; lacks_none = all }) in
    subst (IsHubSet p) (sym (same ∙ least.is)) (subst (λ (s : State). IsHubSet p s.hubs) (start_least minimal p hubs least) start.state.hubs.is_set)

pub second_state : (kind : CutKind) (p : Problem) (kept more : List Entry) (set order hubs old : List ℕ) (price cost made : ℕ) (stop : Option ℕ)
    → IsProblem p → IsHubSet p set → state_by p kept old cost made stop ≡ begun p (parts_for kind p) → HasCut kind p kept more set order price
    → IsLeast p set → order ≡ others p set → hubs ≡ set
    → state_by p more hubs price made stop ≡ begun_for p (parts_for kind p) p.wanted
unfolding begun
second_state kind p kept more set order hubs old price cost made stop ok is_set start cut least outside same =
    let parts = parts_for kind p in
    let first = take least.n p.candidates in
    let sets : pool_sets more ≡ Some p.candidates ∷ Some first ∷ [] =
    more_sets kind p kept more set order price ok is_set cut ∙ ap (λ (s : State). s.sets ++ Some set ∷ []) start
    ∙ ap (λ (x : List ℕ). Some p.candidates ∷ Some x ∷ []) least.is in
    let ascending : order ≡ parts.ascending first = outside ∙ sym (parts_ascending p set) ∙ ap parts.ascending least.is in
    let cuts : pool_cuts p more ≡ parts.cut p.candidates (parts.ascending p.candidates) ∷ parts.cut first (parts.ascending first) ∷ [] =
    more_cuts kind p kept more set order price ok is_set cut ∙ ap (λ (s : State). s.cuts ++ parts.cut set order ∷ []) start
    ∙ ap₂ (λ (x y : List ℕ). parts.cut p.candidates (parts.ascending p.candidates) ∷ parts.cut x y ∷ []) least.is ascending in
    let marks : pool_marks more ≡ parts.mark p.candidates ∷ parts.mark first ∷ [] =
    more_marks kind p kept more set order price ok is_set cut ∙ ap (λ (s : State). s.marks ++ parts.mark set ∷ []) start
    ∙ ap (λ (x : List ℕ). parts.mark p.candidates ∷ parts.mark x ∷ []) least.is in
    let best = same ∙ least.is in
    let costs = cut.cost ∙ ap parts.cost least.is in
    let one = ap (λ (s : State). s.made) start in
    let going = ap (λ (s : State). s.stop) start in
    let now : state_by p more hubs price made stop ≡ record (begun p parts) {
      sets = Some p.candidates ∷ Some first ∷ [];
      cuts = parts.cut p.candidates (parts.ascending p.candidates) ∷ parts.cut first (parts.ascending first) ∷ [];
      marks = parts.mark p.candidates ∷ parts.mark first ∷ [];
      hubs = first;
      cost = parts.cost first;
    } = λ i. record { sets = sets i; cuts = cuts i; marks = marks i; hubs = best i; cost = costs i; made = one i; stop = going i } in
    now ∙ sym (start_least kind p set least)

lacks_by : (entries : List Entry) (set : List ℕ) → All (λ (s : Option (List ℕ)). s ≢ Some set) (pool_sets entries) → Lacks entries set
lacks_by [] set apart = All-nil (λ (e : Entry). kept_set e.cut ≢ Some set)
lacks_by (e ∷ es) set apart =
    All-cons (λ (e : Entry). kept_set e.cut ≢ Some set) e es
    (All-head (λ (s : Option (List ℕ)). s ≢ Some set) (kept_set e.cut) (pool_sets es) apart)
    (lacks_by es set (All-tail (λ (s : Option (List ℕ)). s ≢ Some set) (kept_set e.cut) (pool_sets es) apart))

-- it has no cut yet
pub first_is_new : (kind : CutKind) (p : Problem) (entries : List Entry) (set old : List ℕ) (cost made : ℕ) (stop : Option ℕ) → IsProblem p → IsLeast p set
    → state_by p entries old cost made stop ≡ begun p (parts_for kind p) → Lacks entries set
unfolding begun
first_is_new kind p entries set old cost made stop ok least start =
    let limit = subst (λ (o : Option ℕ). IfSome o (λ n. (1 ≤ n) × (n ≤ length p.candidates))) least.wanted ok.wanted_limit in
    let many = length-take-le least.n p.candidates limit.1 in
    lacks_by entries set (subst (All (λ (s : Option (List ℕ)). s ≢ Some set)) (sym (ap (λ (s : State). s.sets) start))
    (All-cons (λ (s : Option (List ℕ)). s ≢ Some set) (Some p.candidates) []
    (λ same. eqb-false least.n (length p.candidates) least.part
    (sym many ∙ sym (ap length (same_Some p.candidates set same ∙ least.is))))
    (All-nil (λ (s : Option (List ℕ)). s ≢ Some set))))

pub second_going : (kind : CutKind) (t : Task) (before after : Progress) (set order : List ℕ) → IsGoing t before
    → state_of t.instance.now before ≡ begun t.instance.now (parts_for kind t.instance.now)
    → HasCut kind t.instance.now before.pool.entries after.pool.entries set order after.cost → HasSameTree before after → IsHubSet t.instance.now set
    → after.hubs ≡ set → IsGoing t after
unfolding begun
second_going kind t before after set order going start cut same is_set best =
    let p = t.instance.now in
    let one : length before.pool.entries ≡ 1 = sym (length-map before.pool.entries (λ (e : Entry). kept_set e.cut)) ∙ ap (λ (s : State). length s.sets) start in
    cut_going kind t before after set order after.cost going (omega (arith, one)) cut same (subst (IsHubSet p) (sym best) is_set)
    (omega (arith, cut.cost, cost_limit p set going.problem is_set))
