-- A search that begins again: it may begin so, and its imported cuts keep their numbers.
use Rattle.std.proofs.Common.{◌≡◌, ℕ, ◌+◌, ◌-◌, ◌≤◌, List, [], ◌∷◌, ◌++◌, length, map, get_or, All, Contains, Bool, true, false, not, ◌&&◌, Option, Some, None, is_some, IsSome, IsNone, nat_eq, take, refl, ap, sym, subst, ◌∙◌, eqb-true, true≢false, arith}
use Rattle.std.specs.Prelude.{IfSome}
use Rattle.std.specs.List.{AllZip, list_all}
use Rattle.std.specs.List.Sorted.{IsStrictlyIncreasing}
use Rattle.std.proofs.lemmas.Bool.{and_parts}
use Rattle.std.proofs.lemmas.List.{append-nil, append_assoc, map-append, length-append, get_or_append_left, get_or-append-add}
use Rattle.std.proofs.lemmas.List.Elements.{All-nil, All-cons, All-head, All-tail, All-append}
use Rattle.hub_spec.specs.Problem.{Problem, IsProblem, commodities}
use Rattle.hub_spec.specs.Plans.{HasRoute, HasWanted, IsHubSet}
use Rattle.hub_spec.specs.Cuts.{Cut, cut_by, IsCut}
use Rattle.core_spec.specs.CoreCuts.{Mark}
use Rattle.hub_spec.specs.Trees.{cut_at}
use Rattle.hub_spec.specs.Certificates.{Proof, HasCutsOf}
use Rattle.hub_spec.specs.Ranges.{IsCutInRange, IsInRange}
use Rattle.hub_spec.proofs.SumLemmas.{by_test}
use Rattle.search_spec.specs.States.{State, Parts, Grown, number_in_pool}
use Rattle.search_spec.specs.Steps.{begun, searched}
use Rattle.search_spec.specs.Laws.{IsWantedSet, ReachesSet, IsStart, AreSound}
use Rattle.hub_spec.specs.Lacking.{first_lacked, lacking}
use Rattle.search_spec.specs.Choices.{has_node, begun_for}
use Rattle.search_spec.specs.Findings.{IsProof, HasGiven, AreOfSets}
use Rattle.search_spec.specs.Again.{Start, start_of, IsStartOf, with_given, has_wanted, is_tried, tried, begun_again}
use Rattle.search_spec.proofs.Keeping.{IsKept, kept_same, kept_twice}
use Rattle.search_spec.proofs.Separated.{separated_next, separated_made, separated_stop}
use Rattle.hub_spec.proofs.Lacking.{none_lacked}
use Rattle.search_spec.proofs.RuleParts.{has_when, in_when}
use Rattle.search_spec.proofs.FoundProofs.{answer_bounds_lem}
use Rattle.search_spec.proofs.WholeSearches.{begun_by, root_grown, lesser_none}

pub certificate_start : (p : Problem) (k : Proof) → IsInRange k → HasCutsOf p k → IsStartOf p (start_of k)
certificate_start p k range has = record {
  cuts = has.cuts;
  in_range = rw (← has.size) range.cuts;
  some_hub = range.some_hub;
  ascend = range.hubs_ascend;
}

-- ---- imported cuts

none_reach : (p : Problem) (target : ℕ) (cuts : List Cut) → AllZip (ReachesSet p target) (map (λ (cut : Cut). None) cuts) cuts
none_reach p target [] = tt
none_reach p target (c ∷ cs) = (tt, none_reach p target cs)

reach_more : (p : Problem) (target : ℕ) (sets : List (Option (List ℕ))) (cuts more : List Cut) → AllZip (ReachesSet p target) sets cuts
    → AllZip (ReachesSet p target) (sets ++ map (λ (cut : Cut). None) more) (cuts ++ more)
reach_more p target [] [] more all = none_reach p target more
reach_more p target [] (c ∷ cs) more all = absurd all
reach_more p target (o ∷ os) [] more all = absurd all
reach_more p target (o ∷ os) (c ∷ cs) more all = (all.0, reach_more p target os cs more all.1)

pub given_start : (p : Problem) (cuts : List Cut) (s : State) → All (IsCut p) cuts → All (IsCutInRange p.size) cuts → IsStart p s
    → IsStart p (with_given cuts s)
unfolding with_given
given_start p cuts s are range start = record {
  state = record {
    cuts = All-append (IsCut p) s.cuts cuts start.state.cuts are;
    in_range = All-append (IsCutInRange p.size) s.cuts cuts start.state.in_range range;
    reached = reach_more p s.cost s.sets s.cuts cuts start.state.reached;
    hubs = start.state.hubs;
    cost = start.state.cost;
  };
  made = start.made;
  stop = start.stop;
}

pub given_cuts : (cuts : List Cut) (s : State) → (with_given cuts s).cuts ≡ s.cuts ++ cuts
unfolding with_given
given_cuts cuts s = refl

-- ---- hubs that are tried

pub all_has : (ks hubs : List ℕ) → All (Contains ks) hubs → list_all (has_node ks) hubs ≡ true
all_has ks [] are = refl
all_has ks (h ∷ hs) are =
    let first = has_when ks h (All-head (Contains ks) h hs are) in
    rw first (all_has ks hs (All-tail (Contains ks) h hs are))

pub all_in : (ks hubs : List ℕ) → list_all (has_node ks) hubs ≡ true → All (Contains ks) hubs
all_in ks [] e = All-nil (Contains ks)
all_in ks (h ∷ hs) e =
    let parts = and_parts (has_node ks h) (list_all (has_node ks) hs) e in
    All-cons (Contains ks) h hs (in_when ks h parts.0) (all_in ks hs parts.1)

no_lacked : (p : Problem) (hubs : List ℕ) → is_some (lacking p hubs) ≡ false → All (HasRoute p hubs) (commodities p.size)
unfolding lacking
no_lacked p hubs e = there (first_lacked p hubs (commodities p.size)) refl e
  where
    there : (o : Option (ℕ × ℕ)) → first_lacked p hubs (commodities p.size) ≡ o → is_some o ≡ false → All (HasRoute p hubs) (commodities p.size)
    there None same e = none_lacked p hubs (commodities p.size) same
    there (Some c) same e = absurd (true≢false e)

wanted_when : (p : Problem) (wanted : Option ℕ) (hubs : List ℕ) → p.wanted ≡ wanted → has_wanted wanted hubs ≡ true → HasWanted p hubs
wanted_when p None hubs same e = subst (λ (o : Option ℕ). IfSome o (λ n. length hubs ≡ n)) (sym same) tt
wanted_when p (Some n) hubs same e = subst (λ (o : Option ℕ). IfSome o (λ m. length hubs ≡ m)) (sym same) (eqb-true (length hubs) n e)

not_true : (b : Bool) → not b ≡ true → b ≡ false
not_true true e = absurd (true≢false (sym e))
not_true false e = refl

pub tried_set : (p : Problem) (s : State) (hubs : List ℕ) → 1 ≤ length hubs → IsStrictlyIncreasing hubs → is_tried p s hubs ≡ true
    → IsWantedSet p hubs
unfolding is_tried
tried_set p s hubs some up e =
    let found = not (is_some (number_in_pool s hubs)) in
    let rest = not (is_some (lacking p hubs)) && (has_wanted p.wanted hubs && found) in
    let first = and_parts (list_all (has_node p.candidates) hubs) rest e in
    let second = and_parts (not (is_some (lacking p hubs))) (has_wanted p.wanted hubs && found) first.1 in
    let third = and_parts (has_wanted p.wanted hubs) found second.1 in
    record {
      is_set = record {
        set = record { some_hub = some; ascend = up; are_candidates = all_in p.candidates hubs first.0 };
        lacks_none = no_lacked p hubs (not_true (is_some (lacking p hubs)) second.0);
      };
      wanted = wanted_when p p.wanted hubs refl third.0;
    }

-- what the hubs leave of a start: a start, with its cuts kept
pub record IsTriedTo (p : Problem) (s t : State) : Type 0 where
  pub start : IsStart p t
  pub kept : IsKept s.cuts t.cuts

pub tried_start : (p : Problem) (parts : Parts) (hubs : List ℕ) (s : State) → AreSound p parts → 1 ≤ length hubs → IsStrictlyIncreasing hubs
    → IsStart p s → IsTriedTo p s (tried p parts hubs s)
unfolding tried
tried_start p parts hubs s sound some up start =
    by_test (is_tried p s hubs)
    (λ e. rw e (let set = tried_set p s hubs some up e in
    let order = parts.ascending hubs in
    let next = separated_next p parts hubs order s sound start.state set (sound.ascending hubs set.is_set) in record {
      start = record {
        state = next.state;
        made = separated_made parts hubs order s ∙ start.made;
        stop = separated_stop parts hubs order s ∙ start.stop;
      };
      kept = next.kept;
    }))
    (λ e. rw e (record { start = start; kept = kept_same s.cuts }))

-- ---- the whole start

again_tried : (p : Problem) (parts : Parts) (start : Start) → IsProblem p → IsHubSet p p.candidates → AreSound p parts → IsStartOf p start
    → IsTriedTo p (with_given start.cuts (begun_for p parts p.wanted)) (begun_again p parts start)
unfolding begun_again
again_tried p parts start ok all sound is =
    tried_start p parts start.hubs (with_given start.cuts (begun_for p parts p.wanted)) sound is.some_hub is.ascend
    (given_start p start.cuts (begun_for p parts p.wanted) is.cuts is.in_range (begun_by p parts p.wanted ok all sound refl))

pub again_start : (p : Problem) (parts : Parts) (start : Start) → IsProblem p → IsHubSet p p.candidates → AreSound p parts → IsStartOf p start
    → IsStart p (begun_again p parts start)
again_start p parts start ok all sound is = (again_tried p parts start ok all sound is).start

-- the cuts that a list begins with, and those after them, where it is kept
kept_given : (first given cuts : List Cut) → IsKept (first ++ given) cuts → HasGiven first given cuts
kept_given first given cuts kept =
    let long = length-append first given in
    record {
      long = omega (arith, long, kept.long);
      own = λ x least most. kept.same x least (omega (arith, long, most))
          ∙ get_or_append_left first given (cut_by []) (x - 1) (omega (arith, least, most));
      given = λ x least most. kept.same (length first + x) (omega (arith, least)) (omega (arith, long, most))
          ∙ later first given x least;
    }
  where
    later : (first given : List Cut) (x : ℕ) → 1 ≤ x → cut_at (first ++ given) (length first + x) ≡ cut_at given x
    later first given x least =
        let place : length first + x - 1 ≡ length first + (x - 1) = omega (arith, least) in
        ap (λ (i : ℕ). get_or (first ++ given) i (cut_by [])) place ∙ get_or-append-add first given (x - 1) (cut_by [])

pub again_given : (p : Problem) (parts : Parts) (n : Option ℕ) (start : Start) → IsProblem p → IsHubSet p p.candidates → AreSound p parts
    → IsStartOf p start → HasGiven (begun_for p parts p.wanted).cuts start.cuts (searched p parts n (begun_again p parts start)).state.cuts
again_given p parts n start ok all sound is =
    let first = begun_for p parts p.wanted in
    let s = begun_again p parts start in
    let begun = again_tried p parts start ok all sound is in
    let grown = root_grown p parts n s ok sound begun.start in
    let kept = kept_twice (with_given start.cuts first).cuts s.cuts (searched p parts n s).state.cuts begun.kept grown.next.kept in
    kept_given first.cuts start.cuts (searched p parts n s).state.cuts
    (subst (λ (cs : List Cut). IsKept cs (searched p parts n s).state.cuts) (given_cuts start.cuts first) kept)

-- ---- nothing imported

given_none : (s : State) → with_given [] s ≡ s
unfolding with_given
given_none s =
    let sets = append-nil s.sets in
    let cuts = append-nil s.cuts in
    let marks = append-nil s.marks in
    λ i. record s { sets = sets i; cuts = cuts i; marks = marks i }

-- hubs that are tried are not in the pool
known : (p : Problem) (s : State) (hubs : List ℕ) → is_tried p s hubs ≡ true → not (is_some (number_in_pool s hubs)) ≡ true
unfolding is_tried
known p s hubs e =
    let found = not (is_some (number_in_pool s hubs)) in
    let rest = not (is_some (lacking p hubs)) && (has_wanted p.wanted hubs && found) in
    let first = and_parts (list_all (has_node p.candidates) hubs) rest e in
    let second = and_parts (not (is_some (lacking p hubs))) (has_wanted p.wanted hubs && found) first.1 in
    (and_parts (has_wanted p.wanted hubs) found second.1).1

tried_none : (p : Problem) (parts : Parts) (hubs : List ℕ) (s : State) → is_some (number_in_pool s hubs) ≡ true → tried p parts hubs s ≡ s
unfolding tried
tried_none p parts hubs s e = by_test (is_tried p s hubs) (λ is. absurd (never is)) (λ is. rw is refl)
  where
    never : is_tried p s hubs ≡ true → ⊥
    never is = true≢false (sym (known p s hubs is) ∙ ap not e)

pub nothing_given_lem : (p : Problem) (parts : Parts) (hubs : List ℕ) → IsSome (number_in_pool (begun_for p parts p.wanted) hubs)
    → begun_again p parts (record { cuts = []; hubs = hubs }) ≡ begun_for p parts p.wanted
unfolding begun_again
nothing_given_lem p parts hubs known =
    ap (λ (s : State). tried p parts hubs s) (given_none (begun_for p parts p.wanted)) ∙ tried_none p parts hubs (begun_for p parts p.wanted) known

pub one_by_one : (cuts : List Cut) (cut : Cut) (s : State) → with_given (cut ∷ []) (with_given cuts s) ≡ with_given (cuts ++ cut ∷ []) s
unfolding with_given
one_by_one cuts cut s =
    let sets = append_assoc s.sets (map (λ (c : Cut). None) cuts) (None ∷ []) ∙ ap (λ (os : List (Option (List ℕ))). s.sets ++ os) (sym (map-append (λ (c : Cut). None) cuts (cut ∷ []))) in
    let all = append_assoc s.cuts cuts (cut ∷ []) in
    let marks = append_assoc s.marks (map (λ (c : Cut). None) cuts) (None ∷ [])
    ∙ ap (λ (ms : List (Option Mark)). s.marks ++ ms) (sym (map-append (λ (c : Cut). None) cuts (cut ∷ []))) in
    λ i. record s { sets = sets i; cuts = all i; marks = marks i }

-- ---- nothing but sets

begun_own : (p : Problem) (parts : Parts) (wanted : Option ℕ) → AreOfSets (begun_for p parts wanted)
unfolding begun_for begun
begun_own p parts None = All-cons (λ (o : Option (List ℕ)). IsSome o) (Some p.candidates) [] refl (All-nil (λ (o : Option (List ℕ)). IsSome o))
begun_own p parts (Some n) =
    let first = All-cons (λ (o : Option (List ℕ)). IsSome o) (Some p.candidates) [] refl (All-nil (λ (o : Option (List ℕ)). IsSome o)) in
    by_test (nat_eq n (length p.candidates))
    (λ all. rw all first)
    (λ less. rw less (All-cons (λ (o : Option (List ℕ)). IsSome o) (Some p.candidates) (Some (take n p.candidates) ∷ []) refl
    (All-cons (λ (o : Option (List ℕ)). IsSome o) (Some (take n p.candidates)) [] refl (All-nil (λ (o : Option (List ℕ)). IsSome o)))))

pub rule_of_sets : (p : Problem) (parts : Parts) (n : Option ℕ) → IsProblem p → IsHubSet p p.candidates → AreSound p parts
    → AreOfSets (searched p parts n (begun_for p parts p.wanted)).state
rule_of_sets p parts n ok all sound =
    (root_grown p parts n (begun_for p parts p.wanted) ok sound (begun_by p parts p.wanted ok all sound refl)).next.own (begun_own p parts p.wanted)

-- ---- two searches

pub searches_agree : (p : Problem) (g h : Grown) → IsProblem p → IsProof p g → IsProof p h → IsNone g.state.stop → IsNone h.state.stop
    → g.state.cost ≡ h.state.cost
searches_agree p g h ok first second none none_too =
    let closed = lesser_none g.state.cost g.state.stop none in
    let closed_too = lesser_none h.state.cost h.state.stop none_too in
    let plan = first.state.cost.reached in
    let other = second.state.cost.reached in
    let low = answer_bounds_lem p g ok first other.0 other.1
    (subst (λ (hs : List ℕ). HasWanted p hs) (sym other.2) second.state.hubs.wanted) in
    let high = answer_bounds_lem p h ok second plan.0 plan.1
    (subst (λ (hs : List ℕ). HasWanted p hs) (sym plan.2) first.state.hubs.wanted) in
    omega (arith, low, high, closed, closed_too, plan.3, other.3)
