-- Where no set's cut is marked, no cut that the rule finds is.
use Rattle.std.proofs.Common.{ℕ, zero, suc, ◌+◌, ◌||◌, false, true, nat_eq, List, [], ◌∷◌, length, take, All, Option, Some, None, is_some, IsNone, if◌then◌else◌}
use Rattle.std.proofs.lemmas.Bool.{cond_both}
use Rattle.std.proofs.lemmas.List.Elements.{All-nil, All-cons, All-push}
use Rattle.hub_spec.specs.Problem.{Problem}
use Rattle.hub_spec.specs.Trees.{Branching, root, open_child, closed_child, Tree, leaf}
use Rattle.search_spec.specs.States.{denominator, State, Advice, Parts, Grown, Handling, number_in_pool, is_stopped}
use Rattle.search_spec.specs.Steps.{better, closes_at, separated, full_by, full_on, may_split, two_more, stopped_leaf, Round, round, rounds, Side, child_on, fixings, unless_ended, on_set, ended, halved, parted, with_leaf, fixed, after_rounds, explored, handled, node, searched, begun}
use Rattle.search_spec.specs.Choices.{begun_for}

-- no cut is marked
abbrev pub AreUnmarked : State → Type 0
AreUnmarked s = All (λ mark. IsNone mark) s.marks

-- no set's cut is
abbrev pub HasNoMark : Parts → Type 0
HasNoMark parts = (set : List ℕ) → IsNone (parts.mark set)

abbrev KeepsUnmarked : Handling → Type 0
KeepsUnmarked go = (b : Branching) (w : List (ℕ × ℕ)) (s : State) → AreUnmarked s → AreUnmarked (go b w s).state

abbrev IsUnmarked : Grown → Type 0
IsUnmarked g = AreUnmarked g.state

-- ---- the steps of a search

separated_unmarked : (parts : Parts) (set order : List ℕ) (s : State) → HasNoMark parts → AreUnmarked s → AreUnmarked (separated parts set order s)
unfolding separated
separated_unmarked parts set order s none are = All-push (λ mark. IsNone mark) s.marks (parts.mark set) are (none set)

stop_unmarked : (p : Problem) (b : Branching) (w : List (ℕ × ℕ)) (s : State) → AreUnmarked s → IsUnmarked (stopped_leaf p b w s)
unfolding stopped_leaf
stop_unmarked p b w s are = are

unless_unmarked : (o : Option Tree) (s : State) (rest : Grown) → AreUnmarked s → IsUnmarked rest → IsUnmarked (unless_ended o s rest)
unless_unmarked None s rest are more = more
unless_unmarked (Some t) s rest are more = are

on_unmarked : (o : Option (List ℕ)) (f : List ℕ → Grown) (rest : Grown) → ((set : List ℕ) → IsUnmarked (f set)) → IsUnmarked rest
    → IsUnmarked (on_set o f rest)
on_unmarked None f rest some none = none
on_unmarked (Some set) f rest some none = some set

full_unmarked : (parts : Parts) (set : List ℕ) (s : State) → HasNoMark parts → AreUnmarked s → IsUnmarked (full_on parts set s)
unfolding full_on full_by
full_unmarked parts set s none are = by (number_in_pool s set)
  where
    by : (o : Option ℕ) → IsUnmarked (full_by parts set s o)
    by (Some x) = are
    by None = separated_unmarked parts set (parts.ascending set) s none are

ended_unmarked : (parts : Parts) (b : Branching) (s : State) (set : List ℕ) → HasNoMark parts → AreUnmarked s → IsUnmarked (ended parts b s set)
unfolding ended
ended_unmarked parts b s set none are =
    unless_unmarked (parts.barren b) s (unless_ended (parts.blocked b) s (full_on parts set s)) are
    (unless_unmarked (parts.blocked b) s (full_on parts set s) are (full_unmarked parts set s none are))

halved_unmarked : (go : Handling) (k : ℕ) (b : Branching) (w : List (ℕ × ℕ)) (s : State) → KeepsUnmarked go → AreUnmarked s → IsUnmarked (halved go k b w s)
unfolding halved two_more
halved_unmarked go k b w s keeps are =
    let opened = go (open_child b k) w (two_more s) in
    keeps (closed_child b k) w opened.state (keeps (open_child b k) w (two_more s) are)

parted_unmarked : (p : Problem) (parts : Parts) (n : Option ℕ) (go : Handling) (a : Advice) (b : Branching) (w : List (ℕ × ℕ)) (s : State)
    → HasNoMark parts → KeepsUnmarked go → AreUnmarked s → IsUnmarked (parted p parts n go a b w s)
unfolding parted
parted_unmarked p parts n go a b w s none keeps are =
    let both = halved go (parts.nearest a b) b w s in
    let stop = stopped_leaf p b w s in
    on_unmarked (parts.only b) (ended parts b s) (if may_split n s then both else stop) (λ set. ended_unmarked parts b s set none are)
    (cond_both (may_split n s) both stop IsUnmarked (λ e. halved_unmarked go (parts.nearest a b) b w s keeps are)
    (λ e. stop_unmarked p b w s are))

fixed_unmarked : (p : Problem) (parts : Parts) (n : Option ℕ) (go : Handling) (a : Advice) (fs : List (ℕ × Side)) (b : Branching) (w : List (ℕ × ℕ))
    (s : State) → HasNoMark parts → KeepsUnmarked go → AreUnmarked s → IsUnmarked (fixed p parts n go a fs b w s)
unfolding fixed two_more
fixed_unmarked p parts n go a [] b w s none keeps are = parted_unmarked p parts n go a b w s none keeps are
fixed_unmarked p parts n go a (f ∷ rest) b w s none keeps are =
    let last = parted p parts n go a b w s in
    let next = fixed p parts n go a rest (child_on f.1 b f.0) w (two_more s) in
    let stop = stopped_leaf p b w s in
    cond_both (is_some (parts.only b)) last (if may_split n s then with_leaf f w next else stop) IsUnmarked
    (λ e. parted_unmarked p parts n go a b w s none keeps are)
    (λ e. cond_both (may_split n s) (with_leaf f w next) stop IsUnmarked
    (λ d. fixed_unmarked p parts n go a rest (child_on f.1 b f.0) w (two_more s) none keeps are) (λ d. stop_unmarked p b w s are))

-- ---- rounds

round_unmarked : (p : Problem) (parts : Parts) (b : Branching) (w : List (ℕ × ℕ)) (s : State) → HasNoMark parts → AreUnmarked s
    → AreUnmarked (round p parts b w s).state
unfolding round
round_unmarked p parts b w s none are =
    let advice = parts.advice s b in
    let best = better p s b w advice.weights in
    let set = parts.pick advice b in
    let over : Round = record { state = s; weights = best; advice = advice; again = false } in
    let next = separated parts set (parts.falling advice set) s in
    let more : Round = record { state = next; weights = best; advice = advice; again = true } in
    cond_both (closes_at p s b best || is_some (number_in_pool s set)) over more (λ (r : Round). AreUnmarked r.state) (λ e. are)
    (λ e. separated_unmarked parts set (parts.falling advice set) s none are)

rounds_unmarked : (m : ℕ) (p : Problem) (parts : Parts) (b : Branching) (r : Round) → HasNoMark parts → AreUnmarked r.state
    → AreUnmarked (rounds m p parts b r).state
unfolding rounds
rounds_unmarked zero p parts b r none are = are
rounds_unmarked (suc more) p parts b r none are =
    let next = round p parts b r.weights r.state in
    cond_both r.again (rounds more p parts b next) r (λ (x : Round). AreUnmarked x.state)
    (λ e. rounds_unmarked more p parts b next none (round_unmarked p parts b r.weights r.state none are)) (λ e. are)

-- ---- a branch

after_unmarked : (p : Problem) (parts : Parts) (n : Option ℕ) (go : Handling) (b : Branching) (r : Round) → HasNoMark parts → KeepsUnmarked go
    → AreUnmarked r.state → IsUnmarked (after_rounds p parts n go b r)
unfolding after_rounds
after_unmarked p parts n go b r none keeps are =
    let w = r.weights in
    let s = r.state in
    let closed : Grown = record { state = s; tree = leaf denominator w } in
    cond_both (closes_at p s b w) closed (fixed p parts n go r.advice (fixings p s b w) b w s) IsUnmarked (λ e. are)
    (λ e. fixed_unmarked p parts n go r.advice (fixings p s b w) b w s none keeps are)

handled_unmarked : (p : Problem) (parts : Parts) (n : Option ℕ) (go : Handling) → HasNoMark parts → KeepsUnmarked go → KeepsUnmarked (handled p parts n go)
unfolding handled explored
handled_unmarked p parts n go none keeps b w s are =
    let last = explored p parts n go b w s in
    let alone = on_set (parts.only b) (λ set. full_on parts set s) last in
    let later = unless_ended (parts.blocked b) s alone in
    let stop = stopped_leaf p b w s in
    let first = round p parts b w s in
    unless_unmarked (parts.barren b) s (if is_stopped s then stop else later) are
    (cond_both (is_stopped s) stop later IsUnmarked (λ e. stop_unmarked p b w s are)
    (λ e. unless_unmarked (parts.blocked b) s alone are
    (on_unmarked (parts.only b) (λ set. full_on parts set s) last (λ set. full_unmarked parts set s none are)
    (after_unmarked p parts n go b (rounds 2 p parts b first) none keeps
    (rounds_unmarked 2 p parts b first none (round_unmarked p parts b w s none are))))))

node_unmarked : (depth : ℕ) (p : Problem) (parts : Parts) (n : Option ℕ) → HasNoMark parts → KeepsUnmarked (node depth p parts n)
unfolding node
node_unmarked zero p parts n none b w s are = are
node_unmarked (suc depth) p parts n none b w s are = handled_unmarked p parts n (node depth p parts n) none (node_unmarked depth p parts n none) b w s are

-- ---- the whole search

one_unmarked : (parts : Parts) (set : List ℕ) → HasNoMark parts → All (λ mark. IsNone mark) (parts.mark set ∷ [])
one_unmarked parts set none = All-cons (λ mark. IsNone mark) (parts.mark set) [] (none set) (All-nil (λ mark. IsNone mark))

begun_unmarked : (p : Problem) (parts : Parts) (wanted : Option ℕ) → HasNoMark parts → AreUnmarked (begun_for p parts wanted)
unfolding begun_for begun
begun_unmarked p parts None none = one_unmarked parts p.candidates none
begun_unmarked p parts (Some n) none =
    let set = take n p.candidates in
    let first = begun p parts in
    let second : State = record first {
      sets = Some p.candidates ∷ Some set ∷ [];
      cuts = parts.cut p.candidates (parts.ascending p.candidates) ∷ parts.cut set (parts.ascending set) ∷ [];
      marks = parts.mark p.candidates ∷ parts.mark set ∷ [];
      hubs = set;
      cost = parts.cost set;
    } in
    cond_both (nat_eq n (length p.candidates)) first second AreUnmarked (λ e. one_unmarked parts p.candidates none)
    (λ e. All-cons (λ mark. IsNone mark) (parts.mark p.candidates) (parts.mark set ∷ []) (none p.candidates) (one_unmarked parts set none))

pub found_unmarked : (p : Problem) (parts : Parts) (n : Option ℕ) → HasNoMark parts → AreUnmarked (searched p parts n (begun_for p parts p.wanted)).state
unfolding searched
found_unmarked p parts n none =
    node_unmarked (length p.candidates + 1) p parts n none (root p) [] (begun_for p parts p.wanted) (begun_unmarked p parts p.wanted none)
