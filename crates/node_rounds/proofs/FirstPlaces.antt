-- The tree that rounds grow for an unlimited problem has only lines that the first version spells.
use Rattle.std.proofs.Common.{◌≡◌, ℕ, zero, suc, true, false, not, ◌&&◌, nat_lt, nat_eq, List, [], ◌∷◌, ◌++◌, length, map, All, Option, Some, None, is_some, if◌then◌else◌, refl, sym, subst, ◌∙◌}
use Rattle.std.specs.Prelude.{option_map}
use Rattle.std.proofs.lemmas.Bool.{cond_both}
use Rattle.std.proofs.lemmas.Option.{same_Some, none-some}
use Rattle.std.proofs.lemmas.List.Elements.{All-nil, All-cons, All-append, All-head, All-tail}
use Rattle.hub_spec.specs.Problem.{Problem, IsProblem}
use Rattle.hub_spec.specs.Trees.{Branching, root, open_child, closed_child, Tree, leaf, empty, TreeLine, branch_on, leaf_of, no_hub, preorder}
use Rattle.hub_spec.specs.Ranges.{IsFirstLine}
use Rattle.hub_spec.proofs.SumLemmas.{by_test}
use Rattle.search_spec.specs.States.{denominator, State, Advice, Parts, Grown, whole_on, number_in_pool, is_stopped}
use Rattle.search_spec.specs.Steps.{closes_at, better, may_split, two_more, stopped_leaf, Side, stays_open, stays_closed, fixings, unless_ended}
use Rattle.search_spec.specs.Laws.{IsStart}
use Rattle.search_spec.specs.Choices.{all_closed, barren_end}
use Rattle.cut_pool.specs.Findings.{IsUnlimited}
use Rattle.search_steps.specs.Advising.{parts_of}
use Rattle.search_steps.proofs.OpenBranches.{never_blocked}
use Rattle.search_steps.proofs.RuleChoices.{parts_sound, barren_is, some_open}
use Rattle.search_spec.specs.Places.{Pending, Place, line, open_at, Outcome, ends, asks, splits, Standing, lines_of}
use Rattle.search_spec.specs.Turns.{on_some, most_waits, turn_alone, turn_advised, turn, waited, fresh, stops_at, halved, after_fixings, child_of, beside_leaf, split_up, taken, turns_taken, most_turns, next_round, goes_on, rounds, Closed, closed_up, grown_of, at_root}
use Rattle.search_spec.specs.Lasting.{turns_of, stood, searched_by_rounds}
use Rattle.search_spec.proofs.Leading.{Leads, tree_is}
use Rattle.search_spec.proofs.Turning.{on_some_both}
use Rattle.search_spec.proofs.WholeRounds.{last_is}

abbrev IsFirst : Tree → Type 0
IsFirst tree = All IsFirstLine (preorder tree)

-- each finished line is so
abbrev AreFirst : List Place → Type 0
AreFirst [] = Unit {0}
AreFirst (line l ∷ rest) = IsFirstLine l × AreFirst rest
AreFirst (open_at x ∷ rest) = AreFirst rest

-- a tree that ends a node is so
abbrev EndsInFirst : Outcome → Type 0
EndsInFirst (ends t) = IsFirst t
EndsInFirst (asks set order w more) = Unit {0}
EndsInFirst (splits w fs advice) = Unit {0}

-- the ends by numbers are so, and a branch with none of them is feasible for each commodity
record EndsFirst (parts : Parts) : Type 0 where
  barren : (b : Branching) (t : Tree) → parts.barren b ≡ Some t → IsFirst t
  blocked : (b : Branching) → parts.barren b ≡ None → parts.blocked b ≡ None

-- ---- trees and places

leaf_first : (denom : ℕ) (w : List (ℕ × ℕ)) → IsFirst (leaf denom w)
leaf_first denom w = All-cons IsFirstLine (leaf_of denom w) [] tt (All-nil IsFirstLine)

stop_first : (p : Problem) (b : Branching) (w : List (ℕ × ℕ)) (s : State) → IsFirst (stopped_leaf p b w s).tree
unfolding stopped_leaf
stop_first p b w s = leaf_first denominator w

unless_first : (o : Option Tree) (s : State) (rest : Grown) → ((t : Tree) → o ≡ Some t → IsFirst t) → IsFirst rest.tree
    → IsFirst (unless_ended o s rest).tree
unless_first None s rest some none = none
unless_first (Some t) s rest some none = some t refl

-- finished lines as places
lines_first : (ls : List TreeLine) → All IsFirstLine ls → AreFirst (map line ls)
lines_first [] all = tt
lines_first (l ∷ ls) all = (All-head IsFirstLine l ls all, lines_first ls (All-tail IsFirstLine l ls all))

both_first : (xs ys : List Place) → AreFirst xs → AreFirst ys → AreFirst (xs ++ ys)
both_first [] ys one two = two
both_first (line l ∷ rest) ys one two = (one.0, both_first rest ys one.1 two)
both_first (open_at x ∷ rest) ys one two = both_first rest ys one two

-- ---- a turn

alone_first : (parts : Parts) (x : Pending) (set : List ℕ) (o : Option ℕ) → EndsInFirst (turn_alone parts x set o)
unfolding turn_alone
alone_first parts x set (Some c) = leaf_first denominator (whole_on c)
alone_first parts x set None = tt

advised_first : (p : Problem) (parts : Parts) (s : State) (x : Pending) → EndsInFirst (turn_advised p parts s x)
unfolding turn_advised
advised_first p parts s x =
    let b = x.branch in
    let advice = parts.advice s b in
    let best = better p s b x.weights advice.weights in
    let set = parts.pick advice b in
    let new = not (is_some (number_in_pool s set)) && nat_lt x.waits most_waits in
    let ask = asks set (parts.falling advice set) best true in
    let split = splits best (fixings p s b best) advice in
    cond_both (closes_at p s b best) (ends (leaf denominator best)) (if new then ask else split) EndsInFirst
    (λ e. leaf_first denominator best)
    (λ e. cond_both new ask split EndsInFirst (λ f. tt) (λ f. tt))

turn_first : (p : Problem) (parts : Parts) (s : State) (x : Pending) → EndsFirst parts → EndsInFirst (turn p parts s x)
unfolding turn
turn_first p parts s x first =
    let b = x.branch in
    let advised = turn_advised p parts s x in
    let alone = on_some (parts.only b) (λ set. turn_alone parts x set (number_in_pool s set)) advised in
    on_some_both (parts.barren b) ends (on_some (parts.blocked b) ends alone) EndsInFirst (λ t e. first.barren b t e)
    (λ e. on_some_both (parts.blocked b) ends alone EndsInFirst
    (λ t f. absurd (none-some t (sym (first.blocked b e) ∙ f)))
    (λ f. on_some_both (parts.only b) (λ set. turn_alone parts x set (number_in_pool s set)) advised EndsInFirst
    (λ set g. alone_first parts x set (number_in_pool s set)) (λ g. advised_first p parts s x)))

-- ---- a split

stops_first : (p : Problem) (b : Branching) (w : List (ℕ × ℕ)) (s : State) → AreFirst (stops_at p b w s).places
stops_first p b w s = lines_first (preorder (stopped_leaf p b w s).tree) (stop_first p b w s)

halved_first : (p : Problem) (parts : Parts) (n : Option ℕ) (advice : Advice) (x : Pending) (s : State) → AreFirst (halved p parts n advice x s).places
unfolding halved
halved_first p parts n advice x s =
    let b = x.branch in
    let k = parts.nearest advice b in
    let one = fresh (open_child b k) x.weights in
    let two = fresh (closed_child b k) x.weights in
    let both : Standing = record { state = two_more s; places = line (branch_on k) ∷ open_at one ∷ open_at two ∷ [] } in
    cond_both (may_split n s) both (stops_at p b x.weights s) (λ (t : Standing). AreFirst t.places)
    (λ e. (tt, tt)) (λ e. stops_first p b x.weights s)

after_first : (p : Problem) (parts : Parts) (n : Option ℕ) (advice : Advice) (x : Pending) (s : State) → EndsFirst parts
    → AreFirst (after_fixings p parts n advice x s).places
unfolding after_fixings
after_first p parts n advice x s first =
    let b = x.branch in
    let still : Standing = record { state = s; places = open_at x ∷ [] } in
    let two = halved p parts n advice x s in
    on_some_both (parts.barren b) (λ t. record { state = s; places = lines_of t }) (if is_some (parts.only b) then still else two)
    (λ (t : Standing). AreFirst t.places)
    (λ t e. lines_first (preorder t) (first.barren b t e))
    (λ e. cond_both (is_some (parts.only b)) still two (λ (t : Standing). AreFirst t.places)
    (λ f. tt) (λ f. halved_first p parts n advice x s))

beside_first : (side : Side) (k : ℕ) (w : List (ℕ × ℕ)) (places : List Place) → AreFirst places → AreFirst (beside_leaf side k w places)
beside_first stays_open k w places first = (tt, both_first places (line (leaf_of denominator w) ∷ []) first (tt, tt))
beside_first stays_closed k w places first = (tt, (tt, first))

split_first : (p : Problem) (parts : Parts) (n : Option ℕ) (advice : Advice) (fs : List (ℕ × Side)) (x : Pending) (s : State) → EndsFirst parts
    → AreFirst (split_up p parts n advice fs x s).places
unfolding split_up
split_first p parts n advice [] x s first = after_first p parts n advice x s first
split_first p parts n advice (f ∷ rest) x s first =
    let kept = split_up p parts n advice rest (child_of x f) (two_more s) in
    let one : Standing = record { state = kept.state; places = beside_leaf f.1 f.0 x.weights kept.places } in
    cond_both (is_some (parts.only x.branch)) (after_fixings p parts n advice x s) (if may_split n s then one else stops_at p x.branch x.weights s)
    (λ (t : Standing). AreFirst t.places)
    (λ e. after_first p parts n advice x s first)
    (λ e. cond_both (may_split n s) one (stops_at p x.branch x.weights s) (λ (t : Standing). AreFirst t.places)
    (λ g. beside_first f.1 f.0 x.weights kept.places (split_first p parts n advice rest (child_of x f) (two_more s) first))
    (λ g. stops_first p x.branch x.weights s))

-- ---- rounds

taken_first : (p : Problem) (parts : Parts) (n : Option ℕ) (x : Pending) (o : Outcome) (s : State) → EndsFirst parts → EndsInFirst o
    → AreFirst (taken p parts n x o s).places
unfolding taken
taken_first p parts n x (ends t) s first end = lines_first (preorder t) end
taken_first p parts n x (asks set order w more) s first end = tt
taken_first p parts n x (splits w fs advice) s first end = split_first p parts n advice fs (waited x w false) s first

turns_first : (p : Problem) (parts : Parts) (n : Option ℕ) (start : State) (left : ℕ) (places : List Place) (s : State) → EndsFirst parts
    → AreFirst places → AreFirst (turns_taken p parts n start left places s).places
unfolding turns_taken
turns_first p parts n start left [] s first are = tt
turns_first p parts n start left (line l ∷ rest) s first are = (are.0, turns_first p parts n start left rest s first are.1)
turns_first p parts n start zero (open_at x ∷ rest) s first are = are
turns_first p parts n start (suc left) (open_at x ∷ rest) s first are =
    let here = taken p parts n x (turn p parts start x) s in
    let after = turns_taken p parts n start left rest here.state in
    let still : Standing = record { state = s; places = open_at x ∷ rest } in
    let both : Standing = record { state = after.state; places = here.places ++ after.places } in
    cond_both (is_stopped s) still both (λ (t : Standing). AreFirst t.places) (λ e. are)
    (λ e. both_first here.places after.places (taken_first p parts n x (turn p parts start x) s first (turn_first p parts start x first))
    (turns_first p parts n start left rest here.state first are))

next_first : (p : Problem) (parts : Parts) (n : Option ℕ) (t : Standing) → EndsFirst parts → AreFirst t.places
    → AreFirst (next_round p parts n t).places
unfolding next_round
next_first p parts n t first are = turns_first p parts n t.state most_turns t.places t.state first are

all_first : (m : ℕ) (p : Problem) (parts : Parts) (n : Option ℕ) (t : Standing) → EndsFirst parts → AreFirst t.places
    → AreFirst (rounds m p parts n t).places
unfolding rounds
all_first zero p parts n t first are = are
all_first (suc more) p parts n t first are =
    let next = next_round p parts n t in
    cond_both (goes_on t) (rounds more p parts n next) t (λ (u : Standing). AreFirst u.places)
    (λ e. all_first more p parts n next first (next_first p parts n t first are)) (λ e. are)

stood_first : (p : Problem) (parts : Parts) (n : Option ℕ) (s : State) → EndsFirst parts → AreFirst (stood p parts n s).places
unfolding stood
stood_first p parts n s first = all_first (turns_of (length p.candidates)) p parts n (at_root p s) first tt

closed_first : (p : Problem) (parts : Parts) (places : List Place) (s : State) → EndsFirst parts → AreFirst places
    → All IsFirstLine (closed_up p parts places s).lines
unfolding closed_up
closed_first p parts [] s first are = All-nil IsFirstLine
closed_first p parts (line l ∷ rest) s first are =
    All-cons IsFirstLine l (closed_up p parts rest s).lines are.0 (closed_first p parts rest s first are.1)
closed_first p parts (open_at x ∷ rest) s first are =
    let stop = stopped_leaf p x.branch x.weights s in
    let here = unless_ended (parts.barren x.branch) s stop in
    All-append IsFirstLine (preorder here.tree) (closed_up p parts rest here.state).lines
    (unless_first (parts.barren x.branch) s stop (first.barren x.branch) (stop_first p x.branch x.weights s))
    (closed_first p parts rest here.state first are)

-- ---- the ends of an unlimited problem

barren_first : (b : Branching) (t : Tree) → barren_end None b ≡ Some t → IsFirst t
unfolding barren_end all_closed
barren_first b t is =
    by_test (nat_eq (length b.inside) 0 && nat_eq (length b.free) 0)
    (λ e. subst IsFirst (same_Some empty t (rw e at is)) (All-cons IsFirstLine no_hub [] tt (All-nil IsFirstLine)))
    (λ e. absurd (none-some t (rw e at is)))

none_told : (o : Option Tree) → None ≡ option_map preorder o → o ≡ None
none_told None is = refl
none_told (Some t) is = absurd (none-some (preorder t) is)

ends_first : (p : Problem) → IsProblem p → IsUnlimited p → EndsFirst (parts_of p)
ends_first p ok any = record {
  barren = λ b t is. barren_first b t (barren_is p None b any.any_number ∙ is);
  blocked = λ b barren. none_told ((parts_of p).blocked b) (never_blocked p b any.any_length (some_open p b ok barren));
}

-- ---- the whole search

-- the tree of lines that lead from the root has those lines
lines_whole : (p : Problem) (c : Closed) → Leads p c.state (root p ∷ []) (map line c.lines) [] → c.lines ≡ preorder (grown_of c).tree
lines_whole p c leads = sym (tree_is p c.state (root p) c.lines leads).whole

tree_first : (p : Problem) (c : Closed) → Leads p c.state (root p ∷ []) (map line c.lines) [] → All IsFirstLine c.lines
    → All IsFirstLine (preorder (grown_of c).tree)
tree_first p c leads all = subst (λ (ls : List TreeLine). All IsFirstLine ls) (lines_whole p c leads) all

last_first : (p : Problem) (n : Option ℕ) (s : State) → IsProblem p → IsStart p s → IsUnlimited p
    → All IsFirstLine (preorder (grown_of (closed_up p (parts_of p) (stood p (parts_of p) n s).places (stood p (parts_of p) n s).state)).tree)
last_first p n s ok start any =
    let parts = parts_of p in
    let first = ends_first p ok any in
    let last = last_is p parts n s ok (parts_sound p ok) start in
    tree_first p (closed_up p parts (stood p parts n s).places (stood p parts n s).state) last.closed.leads
    (closed_first p parts (stood p parts n s).places (stood p parts n s).state first (stood_first p parts n s first))

pub rounds_first : (p : Problem) (n : Option ℕ) (s : State) → IsProblem p → IsStart p s → IsUnlimited p
    → All IsFirstLine (preorder (searched_by_rounds p (parts_of p) n s).tree)
unfolding searched_by_rounds
rounds_first p n s ok start any = last_first p n s ok start any
