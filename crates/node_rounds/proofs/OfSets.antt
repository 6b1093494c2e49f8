-- Each cut of what the search by rounds finds is of a set, and none is marked.
use Rattle.std.proofs.Common.{ℕ, zero, suc, List, [], ◌∷◌, ◌++◌, length, take, All, false, Option, Some, None, IsSome, IsNone, is_some, nat_eq, if◌then◌else◌, refl}
use Rattle.std.proofs.lemmas.Bool.{cond_both}
use Rattle.std.proofs.lemmas.List.Elements.{All-nil, All-cons, All-push}
use Rattle.hub_spec.specs.Problem.{Problem}
use Rattle.hub_spec.specs.Trees.{Branching, open_child, closed_child, branch_on, Tree}
use Rattle.hub_spec.proofs.SumLemmas.{by_test}
use Rattle.search_spec.specs.States.{State, Advice, Parts, Grown, number_in_pool, is_stopped}
use Rattle.search_spec.specs.Steps.{separated, may_split, two_more, Side, stopped_leaf, unless_ended, begun}
use Rattle.search_spec.specs.Choices.{rule_parts, begun_for}
use Rattle.search_spec.specs.Findings.{AreOfSets}
use Rattle.search_steps.specs.Advising.{master_advising, parts_of}
use Rattle.search_spec.specs.Places.{Pending, Place, line, open_at, lines_of, Outcome, ends, asks, splits, Standing}
use Rattle.search_spec.specs.Turns.{with_set, waited, fresh, stops_at, halved, after_fixings, child_of, beside_leaf, split_up, taken, turn, turns_taken, most_turns, next_round, goes_on, rounds, closed_up, at_root}
use Rattle.search_spec.specs.Lasting.{turns_of, stood, searched_by_rounds, rule_by_rounds}
use Rattle.search_spec.proofs.Turning.{on_some_both}

-- ---- the steps

-- each cut is of a set, and none is marked
abbrev pub AreOwn : State → Type 0
AreOwn s = AreOfSets s × All (λ mark. IsNone mark) s.marks

-- no set's cut is
abbrev HasNoMark : Parts → Type 0
HasNoMark parts = (set : List ℕ) → IsNone (parts.mark set)

separated_own : (parts : Parts) (set order : List ℕ) (s : State) → HasNoMark parts → AreOwn s → AreOwn (separated parts set order s)
unfolding separated
separated_own parts set order s none own = (
  All-push (λ (o : Option (List ℕ)). IsSome o) s.sets (Some set) own.0 refl,
  All-push (λ mark. IsNone mark) s.marks (parts.mark set) own.1 (none set),
)

with_set_own : (parts : Parts) (set order : List ℕ) (s : State) → HasNoMark parts → AreOwn s → AreOwn (with_set parts set order s)
unfolding with_set
with_set_own parts set order s none own =
    cond_both (is_some (number_in_pool s set)) s (separated parts set order s) AreOwn (λ e. own) (λ e. separated_own parts set order s none own)

stop_own : (p : Problem) (b : Branching) (w : List (ℕ × ℕ)) (s : State) → AreOwn s → AreOwn (stopped_leaf p b w s).state
unfolding stopped_leaf
stop_own p b w s own = own

unless_own : (o : Option Tree) (s : State) (rest : Grown) → AreOwn s → AreOwn rest.state → AreOwn (unless_ended o s rest).state
unless_own None s rest own more = more
unless_own (Some t) s rest own more = own

-- ---- a split

after_own : (p : Problem) (parts : Parts) (n : Option ℕ) (advice : Advice) (x : Pending) (s : State) → AreOwn s
    → AreOwn (after_fixings p parts n advice x s).state
unfolding after_fixings halved stopped_leaf two_more
after_own p parts n advice x s own =
    let b = x.branch in
    let still : Standing = record { state = s; places = open_at x ∷ [] } in
    let k = parts.nearest advice b in
    let both : Standing = record {
      state = two_more s;
      places = line (branch_on k) ∷ open_at (fresh (open_child b k) x.weights) ∷ open_at (fresh (closed_child b k) x.weights) ∷ [];
    } in
    let two = if may_split n s then both else stops_at p b x.weights s in
    on_some_both (parts.barren b) (λ t. record { state = s; places = lines_of t }) (if is_some (parts.only b) then still else two)
    (λ (t : Standing). AreOwn t.state) (λ t e. own)
    (λ e. cond_both (is_some (parts.only b)) still two (λ (t : Standing). AreOwn t.state) (λ f. own)
    (λ f. cond_both (may_split n s) both (stops_at p b x.weights s) (λ (t : Standing). AreOwn t.state) (λ g. own) (λ g. own)))

split_own : (p : Problem) (parts : Parts) (n : Option ℕ) (advice : Advice) (fs : List (ℕ × Side)) (x : Pending) (s : State) → AreOwn s
    → AreOwn (split_up p parts n advice fs x s).state
unfolding split_up stopped_leaf two_more
split_own p parts n advice [] x s own = after_own p parts n advice x s own
split_own p parts n advice (f ∷ rest) x s own =
    let kept = split_up p parts n advice rest (child_of x f) (two_more s) in
    let one : Standing = record { state = kept.state; places = beside_leaf f.1 f.0 x.weights kept.places } in
    cond_both (is_some (parts.only x.branch)) (after_fixings p parts n advice x s) (if may_split n s then one else stops_at p x.branch x.weights s)
    (λ (t : Standing). AreOwn t.state) (λ e. after_own p parts n advice x s own)
    (λ e. cond_both (may_split n s) one (stops_at p x.branch x.weights s) (λ (t : Standing). AreOwn t.state)
    (λ g. split_own p parts n advice rest (child_of x f) (two_more s) own) (λ g. own))

-- ---- rounds

taken_own : (p : Problem) (parts : Parts) (n : Option ℕ) (x : Pending) (o : Outcome) (s : State) → HasNoMark parts → AreOwn s
    → AreOwn (taken p parts n x o s).state
unfolding taken
taken_own p parts n x (ends t) s none own = own
taken_own p parts n x (asks set order w more) s none own = with_set_own parts set order s none own
taken_own p parts n x (splits w fs advice) s none own = split_own p parts n advice fs (waited x w false) s own

turns_own : (p : Problem) (parts : Parts) (n : Option ℕ) (start : State) (left : ℕ) (places : List Place) (s : State) → HasNoMark parts → AreOwn s
    → AreOwn (turns_taken p parts n start left places s).state
unfolding turns_taken
turns_own p parts n start left [] s none own = own
turns_own p parts n start left (line l ∷ rest) s none own = turns_own p parts n start left rest s none own
turns_own p parts n start zero (open_at x ∷ rest) s none own = own
turns_own p parts n start (suc left) (open_at x ∷ rest) s none own =
    let here = taken p parts n x (turn p parts start x) s in
    let after = turns_taken p parts n start left rest here.state in
    let still : Standing = record { state = s; places = open_at x ∷ rest } in
    let both : Standing = record { state = after.state; places = here.places ++ after.places } in
    cond_both (is_stopped s) still both (λ (t : Standing). AreOwn t.state) (λ e. own)
    (λ e. turns_own p parts n start left rest here.state none (taken_own p parts n x (turn p parts start x) s none own))

next_own : (p : Problem) (parts : Parts) (n : Option ℕ) (t : Standing) → HasNoMark parts → AreOwn t.state → AreOwn (next_round p parts n t).state
unfolding next_round
next_own p parts n t none own = turns_own p parts n t.state most_turns t.places t.state none own

all_own : (m : ℕ) (p : Problem) (parts : Parts) (n : Option ℕ) (t : Standing) → HasNoMark parts → AreOwn t.state → AreOwn (rounds m p parts n t).state
unfolding rounds
all_own zero p parts n t none own = own
all_own (suc more) p parts n t none own =
    let next = next_round p parts n t in
    cond_both (goes_on t) (rounds more p parts n next) t (λ (u : Standing). AreOwn u.state)
    (λ e. all_own more p parts n next none (next_own p parts n t none own)) (λ e. own)

stood_own : (p : Problem) (parts : Parts) (n : Option ℕ) (s : State) → HasNoMark parts → AreOwn s → AreOwn (stood p parts n s).state
unfolding stood
stood_own p parts n s none own = all_own (turns_of (length p.candidates)) p parts n (at_root p s) none own

-- ---- the whole search

closed_own : (p : Problem) (parts : Parts) (places : List Place) (s : State) → AreOwn s → AreOwn (closed_up p parts places s).state
unfolding closed_up
closed_own p parts [] s own = own
closed_own p parts (line l ∷ rest) s own = closed_own p parts rest s own
closed_own p parts (open_at x ∷ rest) s own =
    let stop = stopped_leaf p x.branch x.weights s in
    let here = unless_ended (parts.barren x.branch) s stop in
    closed_own p parts rest here.state (unless_own (parts.barren x.branch) s stop own (stop_own p x.branch x.weights s own))

rounds_own : (p : Problem) (parts : Parts) (n : Option ℕ) (s : State) → HasNoMark parts → AreOwn s → AreOwn (searched_by_rounds p parts n s).state
unfolding searched_by_rounds
rounds_own p parts n s none own =
    let last = stood p parts n s in closed_own p parts last.places last.state (stood_own p parts n s none own)

-- it begins with the set of all candidates, and with that of the first of them if their number is given
one_own : {A : Type 0} (set : List ℕ) (mark : Option A) (sets : List (Option (List ℕ))) (marks : List (Option A)) → IsNone mark
    → All (λ (o : Option (List ℕ)). IsSome o) sets × All (λ (m : Option A). IsNone m) marks
    → All (λ (o : Option (List ℕ)). IsSome o) (Some set ∷ sets) × All (λ (m : Option A). IsNone m) (mark ∷ marks)
one_own {A} set mark sets marks none rest = (
  All-cons (λ (o : Option (List ℕ)). IsSome o) (Some set) sets refl rest.0,
  All-cons (λ (m : Option A). IsNone m) mark marks none rest.1,
)

first_own : (parts : Parts) (set : List ℕ) → HasNoMark parts
    → All (λ (o : Option (List ℕ)). IsSome o) (Some set ∷ []) × All (λ mark. IsNone mark) (parts.mark set ∷ [])
first_own parts set none =
    one_own set (parts.mark set) [] [] (none set) (All-nil (λ (o : Option (List ℕ)). IsSome o), All-nil (λ mark. IsNone mark))

begun_own : (p : Problem) (parts : Parts) (wanted : Option ℕ) → HasNoMark parts → AreOwn (begun_for p parts wanted)
unfolding begun_for begun
begun_own p parts None none = first_own parts p.candidates none
begun_own p parts (Some n) none =
    let set = take n p.candidates in
    by_test (nat_eq n (length p.candidates)) (λ all. rw all (first_own parts p.candidates none))
    (λ less. rw less (one_own p.candidates (parts.mark p.candidates) (Some set ∷ []) (parts.mark set ∷ []) (none p.candidates) (first_own parts set none)))

-- by the rule's parts no cut is marked
no_mark : (p : Problem) → HasNoMark (parts_of p)
unfolding rule_parts
no_mark p set = refl

pub rule_rounds_own : (p : Problem) (n : Option ℕ) → AreOwn (rule_by_rounds p (master_advising p) n).state
unfolding rule_by_rounds
rule_rounds_own p n =
    rounds_own p (parts_of p) n (begun_for p (parts_of p) p.wanted) (no_mark p) (begun_own p (parts_of p) p.wanted (no_mark p))
