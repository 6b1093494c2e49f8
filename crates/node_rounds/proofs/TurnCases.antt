-- The outcome of a node evaluation, by the tests that the code makes.
use Rattle.std.proofs.Common.{◌≡◌, ℕ, ◌≤◌, ◌<◌, Bool, true, false, not, ◌&&◌, nat_lt, ltb-true, List, [], ◌∷◌, length, get_or, map, Option, Some, None, is_some, if◌then◌else◌, refl, ap, sym, ◌∙◌, arith}
use Rattle.std.proofs.lemmas.Bool.{and_parts}
use Rattle.std.proofs.lemmas.List.{length-append}
use Rattle.hub_spec.specs.Problem.{Problem}
use Rattle.hub_spec.specs.Trees.{Tree, branch, leaf, empty, block, count, TreeLine, no_hub, preorder}
use Rattle.search_spec.specs.States.{denominator, State, Advice, Parts, whole_on, number_in_pool}
use Rattle.search_spec.specs.Steps.{closes_at, better, Side, fixings}
use Rattle.search_spec.specs.Laws.{GoesOn}
use Rattle.search_spec.specs.Choices.{rule_parts, order_by_point, by_falling, others}
use Rattle.search_steps.specs.Advising.{master_advising, parts_of}
use Rattle.search_steps.proofs.ToldChoices.{HasEnd}
use Rattle.search_spec.specs.Places.{line, lines_of, Pending, Outcome, ends, asks, splits}
use Rattle.search_spec.specs.Turns.{most_waits, turn, turn_alone, turn_advised}
use Rattle.node_rounds.specs.Outcomes.{tree_of}

-- ---- lines that end a node

some_lines : (t : Tree) → 1 ≤ length (preorder t)
some_lines (branch k opened closed) = omega arith
some_lines (leaf denom weights) = omega arith
some_lines empty = omega arith
some_lines (block commodity) = omega arith
some_lines count = omega arith

-- the tree that has this line alone
one_line : (t : Tree) (l : TreeLine) → preorder t ≡ l ∷ [] → tree_of l ≡ t
one_line (branch k opened closed) l is =
    absurd (omega (arith, ap length is, length-append (preorder opened) (preorder closed), some_lines opened))
one_line (leaf denom weights) l is = ap (λ (ls : List TreeLine). tree_of (get_or ls 0 no_hub)) (sym is)
one_line empty l is = ap (λ (ls : List TreeLine). tree_of (get_or ls 0 no_hub)) (sym is)
one_line (block commodity) l is = ap (λ (ls : List TreeLine). tree_of (get_or ls 0 no_hub)) (sym is)
one_line count l is = ap (λ (ls : List TreeLine). tree_of (get_or ls 0 no_hub)) (sym is)

-- where a line is that of an end, its tree is this end
pub end_tree : (end : Option Tree) (l : TreeLine) (has : HasEnd end l) → tree_of l ≡ has.tree
end_tree end l has = one_line has.tree l has.one

-- and has this line alone
pub end_is_one : (end : Option Tree) (l : TreeLine) → HasEnd end l → lines_of (tree_of l) ≡ line l ∷ []
end_is_one end l has = ap lines_of (end_tree end l has) ∙ ap (map line) has.one

-- ---- the four kinds of nodes

-- a line ends the node, by its numbers
pub turn_barren : (p : Problem) (parts : Parts) (s : State) (x : Pending) (tree : Tree) → parts.barren x.branch ≡ Some tree
    → ends tree ≡ turn p parts s x
unfolding turn
turn_barren p parts s x tree barren = rw barren refl

-- a line ends it since it is infeasible for a commodity
pub turn_blocked : (p : Problem) (parts : Parts) (s : State) (x : Pending) (tree : Tree) → parts.barren x.branch ≡ None
    → parts.blocked x.branch ≡ Some tree → ends tree ≡ turn p parts s x
unfolding turn
turn_blocked p parts s x tree barren blocked = rw (barren, blocked) refl

-- one set is left alone
pub turn_only : (p : Problem) (parts : Parts) (s : State) (x : Pending) (set : List ℕ) → parts.barren x.branch ≡ None
    → parts.blocked x.branch ≡ None → parts.only x.branch ≡ Some set → turn_alone parts x set (number_in_pool s set) ≡ turn p parts s x
unfolding turn
turn_only p parts s x set barren blocked only = rw (barren, blocked, only) refl

-- more sets than one are left
pub turn_open : (p : Problem) (parts : Parts) (s : State) (x : Pending) → GoesOn parts x.branch → turn_advised p parts s x ≡ turn p parts s x
unfolding turn
turn_open p parts s x on = rw (on.barren, on.blocked, on.only) refl

-- ---- a set that is left alone

pub alone_known : (parts : Parts) (x : Pending) (set : List ℕ) (c : ℕ) (o : Option ℕ) → o ≡ Some c
    → ends (leaf denominator (whole_on c)) ≡ turn_alone parts x set o
unfolding turn_alone
alone_known parts x set c o is = sym (ap (λ (m : Option ℕ). turn_alone parts x set m) is)

pub alone_new : (parts : Parts) (x : Pending) (set other order : List ℕ) (o : Option ℕ) → o ≡ None → other ≡ set
    → order ≡ parts.ascending set → asks other order x.weights false ≡ turn_alone parts x set o
unfolding turn_alone
alone_new parts x set other order o is same ascends =
    (λ i. asks (same i) (ascends i) x.weights false) ∙ sym (ap (λ (m : Option ℕ). turn_alone parts x set m) is)

-- ---- an evaluation by the master's result

-- the outcome once the master's result and the better weights are known
turn_with : Problem → Parts → State → Pending → Advice → List (ℕ × ℕ) → Outcome
turn_with p parts s x a best =
    if closes_at p s x.branch best then ends (leaf denominator best)
    else if not (is_some (number_in_pool s (parts.pick a x.branch))) && nat_lt x.waits most_waits
    then asks (parts.pick a x.branch) (parts.falling a (parts.pick a x.branch)) best true
    else splits best (fixings p s x.branch best) a

-- the master's result, and the better weights
pub record IsAdvisedBy (p : Problem) (s : State) (x : Pending) (a : Advice) (best : List (ℕ × ℕ)) : Type 0 where
  pub advice : a ≡ master_advising p s x.branch
  pub weights : best ≡ better p s x.branch x.weights a.weights

with_is : (p : Problem) (s : State) (x : Pending) (a : Advice) (best : List (ℕ × ℕ)) → IsAdvisedBy p s x a best
    → turn_with p (parts_of p) s x a best ≡ turn_advised p (parts_of p) s x
unfolding turn_with turn_advised rule_parts
with_is p s x a best is =
    ap (turn_with p (parts_of p) s x a) is.weights
    ∙ ap (λ (b : Advice). turn_with p (parts_of p) s x b (better p s x.branch x.weights b.weights)) is.advice

with_leaf : (p : Problem) (parts : Parts) (s : State) (x : Pending) (a : Advice) (best : List (ℕ × ℕ)) → closes_at p s x.branch best ≡ true
    → ends (leaf denominator best) ≡ turn_with p parts s x a best
unfolding turn_with
with_leaf p parts s x a best closes = rw closes refl

with_ask : (p : Problem) (parts : Parts) (s : State) (x : Pending) (a : Advice) (best : List (ℕ × ℕ)) → closes_at p s x.branch best ≡ false
    → (not (is_some (number_in_pool s (parts.pick a x.branch))) && nat_lt x.waits most_waits) ≡ true
    → asks (parts.pick a x.branch) (parts.falling a (parts.pick a x.branch)) best true ≡ turn_with p parts s x a best
unfolding turn_with
with_ask p parts s x a best going new = rw (going, new) refl

with_split : (p : Problem) (parts : Parts) (s : State) (x : Pending) (a : Advice) (best : List (ℕ × ℕ)) → closes_at p s x.branch best ≡ false
    → (not (is_some (number_in_pool s (parts.pick a x.branch))) && nat_lt x.waits most_waits) ≡ false
    → splits best (fixings p s x.branch best) a ≡ turn_with p parts s x a best
unfolding turn_with
with_split p parts s x a best going none = rw (going, none) refl

falling_is : (p : Problem) (a : Advice) (set : List ℕ) → (parts_of p).falling a set ≡ by_falling a.point (others p set)
unfolding rule_parts order_by_point
falling_is p a set = refl

-- the better weights fathom the branch at the incumbent's cost
pub advised_leaf : (p : Problem) (s : State) (x : Pending) (a : Advice) (best : List (ℕ × ℕ)) → IsAdvisedBy p s x a best
    → closes_at p s x.branch best ≡ true → ends (leaf denominator best) ≡ turn_advised p (parts_of p) s x
advised_leaf p s x a best is closes = with_leaf p (parts_of p) s x a best closes ∙ with_is p s x a best is

-- the node asks for the set
pub advised_ask : (p : Problem) (s : State) (x : Pending) (a : Advice) (best : List (ℕ × ℕ)) (set order : List ℕ) → IsAdvisedBy p s x a best
    → closes_at p s x.branch best ≡ false → set ≡ (parts_of p).pick a x.branch
    → (not (is_some (number_in_pool s set)) && nat_lt x.waits most_waits) ≡ true → order ≡ by_falling a.point (others p set)
    → asks set order best true ≡ turn_advised p (parts_of p) s x
advised_ask p s x a best set order is going picks new falls =
    let order_is : order ≡ (parts_of p).falling a ((parts_of p).pick a x.branch) =
    falls ∙ sym (falling_is p a set) ∙ ap ((parts_of p).falling a) picks in
    (λ i. asks (picks i) (order_is i) best true)
    ∙ with_ask p (parts_of p) s x a best going
    (sym (ap (λ (ks : List ℕ). not (is_some (number_in_pool s ks)) && nat_lt x.waits most_waits) picks) ∙ new)
    ∙ with_is p s x a best is

-- the node is split
pub advised_split : (p : Problem) (s : State) (x : Pending) (a : Advice) (best : List (ℕ × ℕ)) (set : List ℕ) (fs : List (ℕ × Side))
    → IsAdvisedBy p s x a best → closes_at p s x.branch best ≡ false → set ≡ (parts_of p).pick a x.branch
    → (not (is_some (number_in_pool s set)) && nat_lt x.waits most_waits) ≡ false → fs ≡ fixings p s x.branch best
    → splits best fs a ≡ turn_advised p (parts_of p) s x
advised_split p s x a best set fs is going picks none are =
    (λ i. splits best (are i) a)
    ∙ with_split p (parts_of p) s x a best going
    (sym (ap (λ (ks : List ℕ). not (is_some (number_in_pool s ks)) && nat_lt x.waits most_waits) picks) ∙ none)
    ∙ with_is p s x a best is

-- ---- the test

pub known_asks : (o : Option ℕ) (less : Bool) → is_some o ≡ true → false ≡ (not (is_some o) && less)
known_asks o less e = rw e refl

pub new_asks : (o : Option ℕ) (less test : Bool) → is_some o ≡ false → test ≡ less → test ≡ (not (is_some o) && less)
new_asks o less test e is = rw e is

-- ---- what may be relied on

pub few_waits : (known : Bool) (waits : ℕ) → (known && nat_lt waits most_waits) ≡ true → waits < most_waits
few_waits known waits e = ltb-true waits most_waits (and_parts known (nat_lt waits most_waits) e).1
