-- The start of a search that begins again: imported cuts, and hubs that are tried.
use Rattle.std.proofs.Common.{◌≡◌, ℕ, ◌<◌, List, [], ◌∷◌, ◌++◌, length, All, Contains, Bool, true, false, not, is_some, IsTrue, ◌↔◌, Vec, Global, refl, ap, sym, subst, ◌∙◌, true≢false, append-nil, arith}
use Rattle.std.specs.List.{list_all}
use Rattle.std.proofs.lemmas.List.{length_push}
use Rattle.std.proofs.lemmas.List.Elements.{All-push}
use Rattle.std.proofs.lemmas.List.FromFn.{length-map-range_with_len, get_or-map-range_with_len}
use Rattle.hub_spec.specs.Limits.{most_cuts}
use Rattle.hub_spec.specs.Problem.{Problem}
use Rattle.hub_spec.specs.Plans.{IsCandidateSet, IsHubSet}
use Rattle.hub_spec.specs.Lacking.{lacking}
use Rattle.hub_spec.specs.Cuts.{Cut, load, IsCut}
use Rattle.hub_spec.specs.Ranges.{IsCutInRange}
use Rattle.hub_spec.proofs.SumLemmas.{by_test}
use Rattle.hub_model.specs.Ascending.{IsAscendingSet}
use Rattle.hub_model.specs.declared.tree_lines.TreeLine.{TreeLine}
use Rattle.search_spec.specs.States.{State, number_in_pool}
use Rattle.search_spec.specs.Steps.{separated}
use Rattle.search_spec.specs.Choices.{has_node, others, begun_for}
use Rattle.search_spec.specs.Again.{Start, has_wanted, is_tried, tried, with_given, begun_again}
use Rattle.search_spec.proofs.Beginnings.{all_has, all_in, one_by_one}
use Rattle.cut_pool.specs.Entries.{given_entry}
use Rattle.search_steps.specs.Advising.{parts_of}
use Rattle.search_steps.specs.Kinds.{CutKind, parts_for}
use Rattle.search_steps.specs.Pools.{IsSumsOf, IsPoolOf, state_by}
use Rattle.search_steps.proofs.GivenPools.{grown_same, grown_twice, added_is_given}
use Rattle.search_core.specs.declared.tasks.Task.{Task}
use Rattle.cut_pool.specs.Findings.{lines_of}
use Rattle.search_steps.specs.declared.progress.Progress.{Progress}
use Rattle.search_steps.specs.Progressing.{state_of, IsGoing, IsAt}
use Rattle.search_steps.proofs.Orders.{parts_ascending}

-- ---- imported cuts

-- the entry of an imported cut has its sums
given_sums : (p : Problem) (cut : Cut) → IsCut p cut → IsCutInRange p.size cut → IsSumsOf p (given_entry p.size cut)
given_sums p cut is range = record {
  pooled = tt;
  fits = (is, range);
  is_total = refl;
  one_load_each = length-map-range_with_len (load cut) 0 p.size;
  are_loads = λ k node. get_or-map-range_with_len (load cut) 0 p.size k k 0 node (omega arith);
}

-- the search goes on with one imported cut more
pub given_at : (t : Task) (before after : Progress) (cut : Cut) → IsGoing t before → length before.pool.entries < most_cuts
    → IsCut t.instance.now cut → IsCutInRange t.instance.now.size cut
    → after.pool.entries ≡ before.pool.entries ++ given_entry t.instance.now.size cut ∷ []
    → after.lines ≡ before.lines → after.hubs ≡ before.hubs → after.cost ≡ before.cost → after.made ≡ before.made → after.stop ≡ before.stop
    → IsAt t before after (with_given (cut ∷ []) (state_of t.instance.now before))
given_at t before after cut going few is range entries lines hubs cost made stop =
    let p = t.instance.now in
    let e = given_entry p.size cut in
    let lines_long = ap (λ (v : Vec TreeLine Global). length v.items) lines in
    let as_now : state_of p after ≡ state_by p (before.pool.entries ++ e ∷ []) before.hubs before.cost before.made before.stop =
    λ i. state_by p (entries i) (hubs i) (cost i) (made i) (stop i) in
    record {
      state = as_now ∙ added_is_given p before.pool.entries cut before.hubs before.cost before.made before.stop;
      lines = ap (λ (v : Vec TreeLine Global). lines_of v.items) lines;
      going = record {
        problem = going.problem;
        pool = subst (IsPoolOf p) (sym entries) (All-push (IsSumsOf p) before.pool.entries e going.pool (given_sums p cut is range));
        few_cuts = omega (arith, few, ap length entries, length_push before.pool.entries e);
        few_lines = omega (arith, going.few_lines, lines_long);
        hubs = subst (IsHubSet p) (sym hubs) going.hubs;
        cost = omega (arith, going.cost, cost);
        made = omega (arith, going.made, made, lines_long);
      };
      kept = record { more = e ∷ []; is = entries };
    }

given_none : (s : State) → with_given [] s ≡ s
unfolding with_given
given_none s =
    let sets = append-nil s.sets in
    let cuts = append-nil s.cuts in
    let marks = append-nil s.marks in
    λ i. record s { sets = sets i; cuts = cuts i; marks = marks i }

-- no cut was imported yet
pub given_none_at : (t : Task) (s : Progress) → IsGoing t s → IsAt t s s (with_given [] (state_of t.instance.now s))
given_none_at t s going = record {
  state = sym (given_none (state_of t.instance.now s));
  lines = refl;
  going = going;
  kept = grown_same s.pool.entries;
}

-- one imported cut after some
pub given_next : (t : Task) (before middle after : Progress) (cuts : List Cut) (cut : Cut)
    → IsAt t before middle (with_given cuts (state_of t.instance.now before))
    → IsAt t middle after (with_given (cut ∷ []) (state_of t.instance.now middle))
    → IsAt t before after (with_given (cuts ++ cut ∷ []) (state_of t.instance.now before))
given_next t before middle after cuts cut some one =
    let s = state_of t.instance.now before in
    record {
      state = one.state ∙ ap (with_given (cut ∷ [])) some.state ∙ one_by_one cuts cut s;
      lines = one.lines ∙ some.lines;
      going = one.going;
      kept = grown_twice before.pool.entries middle.pool.entries after.pool.entries some.kept one.kept;
    }

-- ---- hubs that are tried

-- whether all are candidates, by the result of a test
pub all_told : (ks hubs : List ℕ) (told : Bool) → IsTrue told ↔ All (Contains ks) hubs → list_all (has_node ks) hubs ≡ told
all_told ks hubs true both = all_has ks hubs (both.0 refl)
all_told ks hubs false both =
    by_test (list_all (has_node ks) hubs) (λ e. absurd (true≢false (sym (both.1 (all_in ks hubs e))))) (λ e. e)

-- whether the hubs of a set are candidates, by the result of a test
pub candidates_told : (p : Problem) (set nodes members : List ℕ) (told : Bool) → nodes ≡ p.candidates → members ≡ set
    → IsTrue told ↔ All (Contains nodes) members → list_all (has_node p.candidates) set ≡ told
candidates_told p set nodes members told same_nodes same_members both =
    subst (λ (hs : List ℕ). list_all (has_node p.candidates) hs ≡ told) same_members
    (subst (λ (ks : List ℕ). list_all (has_node ks) members ≡ told) same_nodes (all_told nodes members told both))

pub candidate_set : (p : Problem) (set nodes members : List ℕ) (told : Bool) → nodes ≡ p.candidates → members ≡ set
    → IsTrue told ↔ All (Contains nodes) members → told ≡ true → IsAscendingSet set → IsCandidateSet p set
candidate_set p set nodes members told same_nodes same_members both are up = record {
  some_hub = up.some_node;
  ascend = up.ascend;
  are_candidates = subst (λ (hs : List ℕ). All (Contains p.candidates) hs) same_members
      (subst (λ (ks : List ℕ). All (Contains ks) members) same_nodes (both.0 are));
}

pub other_way : (x y : Bool) → x ≡ not y → y ≡ not x
other_way x true is = ap not (sym is)
other_way x false is = ap not (sym is)

-- the tests, in the order in which they are made
pub not_candidates : (p : Problem) (s : State) (hubs : List ℕ) → list_all (has_node p.candidates) hubs ≡ false → is_tried p s hubs ≡ false
unfolding is_tried
not_candidates p s hubs first = rw first refl

pub lacks_some : (p : Problem) (s : State) (hubs : List ℕ) → list_all (has_node p.candidates) hubs ≡ true → is_some (lacking p hubs) ≡ true
    → is_tried p s hubs ≡ false
unfolding is_tried
lacks_some p s hubs first second = rw (first, second) refl

pub not_wanted : (p : Problem) (s : State) (hubs : List ℕ) → list_all (has_node p.candidates) hubs ≡ true → is_some (lacking p hubs) ≡ false
    → has_wanted p.wanted hubs ≡ false → is_tried p s hubs ≡ false
unfolding is_tried
not_wanted p s hubs first second third = rw (first, second, third) refl

pub by_number : (p : Problem) (s : State) (hubs : List ℕ) → list_all (has_node p.candidates) hubs ≡ true → is_some (lacking p hubs) ≡ false
    → has_wanted p.wanted hubs ≡ true → is_tried p s hubs ≡ not (is_some (number_in_pool s hubs))
unfolding is_tried
by_number p s hubs first second third = rw (first, second, third) refl

-- the hubs are not to be tried: nothing changes
pub not_tried : (kind : CutKind) (t : Task) (s : Progress) (set hubs : List ℕ) → IsGoing t s → set ≡ hubs → is_tried t.instance.now (state_of t.instance.now s) set ≡ false
    → IsAt t s s (tried t.instance.now (parts_for kind t.instance.now) hubs (state_of t.instance.now s))
unfolding tried
not_tried kind t s set hubs going same not_to =
    let p = t.instance.now in
    let no : is_tried p (state_of p s) hubs ≡ false = ap (is_tried p (state_of p s)) (sym same) ∙ not_to in
    record { state = rw no refl; lines = refl; going = going; kept = grown_same s.pool.entries }

-- they are: their cut is the next
pub tried_at : (kind : CutKind) (t : Task) (before after : Progress) (set hubs order : List ℕ) → set ≡ hubs
    → is_tried t.instance.now (state_of t.instance.now before) set ≡ true → order ≡ others t.instance.now set
    → IsAt t before after (separated (parts_for kind t.instance.now) set order (state_of t.instance.now before))
    → IsAt t before after (tried t.instance.now (parts_for kind t.instance.now) hubs (state_of t.instance.now before))
unfolding tried
tried_at kind t before after set hubs order same to ascends at =
    let p = t.instance.now in
    let s = state_of p before in
    let yes : is_tried p s hubs ≡ true = ap (is_tried p s) (sym same) ∙ to in
    let ascending : order ≡ (parts_of p).ascending set = ascends ∙ sym (parts_ascending p set) in
    let as_tried : separated (parts_for kind p) set order s ≡ separated (parts_for kind p) hubs ((parts_of p).ascending hubs) s =
    ap (λ (o : List ℕ). separated (parts_for kind p) set o s) ascending ∙ ap (λ (hs : List ℕ). separated (parts_for kind p) hs ((parts_of p).ascending hs) s) same in
    record { state = at.state ∙ as_tried ∙ rw yes refl; lines = at.lines; going = at.going; kept = at.kept }

-- ---- the whole start

pub begun_is : (kind : CutKind) (p : Problem) (start : Start) (s given after : State) → s ≡ begun_for p (parts_for kind p) p.wanted → given ≡ with_given start.cuts s
    → after ≡ tried p (parts_for kind p) start.hubs given → after ≡ begun_again p (parts_for kind p) start
unfolding begun_again
begun_is kind p start s given after first second third =
    third ∙ ap (tried p (parts_for kind p) start.hubs) (second ∙ ap (with_given start.cuts) first)
