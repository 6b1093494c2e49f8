-- The tree of an unlimited problem has only lines that the first version spells.
use Rattle.std.proofs.Common.{◌≡◌, ℕ, zero, suc, ◌+◌, true, false, ◌&&◌, nat_eq, List, [], ◌∷◌, ◌++◌, length, All, Bool, Option, Some, None, is_some, if◌then◌else◌, refl, sym, subst, ◌∙◌}
use Rattle.std.specs.Prelude.{option_map}
use Rattle.std.proofs.lemmas.Option.{same_Some, none-some}
use Rattle.std.proofs.lemmas.List.Elements.{All-nil, All-cons, All-append}
use Rattle.hub_spec.specs.Problem.{Problem, IsProblem}
use Rattle.hub_spec.specs.Trees.{Branching, root, open_child, closed_child, Tree, branch, leaf, empty, branch_on, leaf_of, no_hub, preorder}
use Rattle.hub_spec.specs.Ranges.{IsFirstLine}
use Rattle.hub_spec.proofs.SumLemmas.{by_test}
use Rattle.search_spec.specs.States.{denominator, State, Advice, Parts, Grown, Handling, whole_on, number_in_pool, is_stopped}
use Rattle.search_spec.specs.Steps.{closes_at, full_by, full_on, may_split, two_more, stopped_leaf, Round, round, rounds, Side, stays_open, stays_closed, child_on, fixings, unless_ended, on_set, ended, halved, parted, beside, with_leaf, fixed, after_rounds, explored, handled, node, searched}
use Rattle.search_spec.specs.Choices.{all_closed, barren_end, begun_for}
use Rattle.cut_pool.specs.Findings.{IsUnlimited}
use Rattle.search_steps.specs.Advising.{parts_of}
use Rattle.search_steps.specs.Kinds.{CutKind, parts_for}
use Rattle.search_steps.proofs.OpenBranches.{never_blocked}
use Rattle.search_steps.proofs.RuleChoices.{barren_is, some_open}
use Rattle.branch_tree.specs.Findings.{found_by}

abbrev IsFirst : Tree → Type 0
IsFirst tree = All IsFirstLine (preorder tree)

abbrev AllFirst : Handling → Type 0
AllFirst go = (b : Branching) (w : List (ℕ × ℕ)) (s : State) → IsFirst (go b w s).tree

-- the ends by numbers are so, and a branch with none of them is feasible for each commodity
record EndsFirst (parts : Parts) : Type 0 where
  barren : (b : Branching) (t : Tree) → parts.barren b ≡ Some t → IsFirst t
  blocked : (b : Branching) → parts.barren b ≡ None → parts.blocked b ≡ None

-- ---- trees

leaf_first : (denom : ℕ) (w : List (ℕ × ℕ)) → IsFirst (leaf denom w)
leaf_first denom w = All-cons IsFirstLine (leaf_of denom w) [] tt (All-nil IsFirstLine)

branch_first : (k : ℕ) (a b : Tree) → IsFirst a → IsFirst b → IsFirst (branch k a b)
branch_first k a b first second =
    All-cons IsFirstLine (branch_on k) (preorder a ++ preorder b) tt (All-append IsFirstLine (preorder a) (preorder b) first second)

either_first : (c : Bool) (x y : Grown) → IsFirst x.tree → IsFirst y.tree → IsFirst (if c then x else y).tree
either_first true x y first second = first
either_first false x y first second = second

unless_first : (o : Option Tree) (s : State) (rest : Grown) → ((t : Tree) → o ≡ Some t → IsFirst t) → (o ≡ None → IsFirst rest.tree)
    → IsFirst (unless_ended o s rest).tree
unless_first None s rest some none = none refl
unless_first (Some t) s rest some none = some t refl

on_first : (o : Option (List ℕ)) (f : List ℕ → Grown) (rest : Grown) → ((set : List ℕ) → IsFirst (f set).tree) → IsFirst rest.tree
    → IsFirst (on_set o f rest).tree
on_first None f rest some none = none
on_first (Some set) f rest some none = some set

never_first : (parts : Parts) (b : Branching) (s : State) (rest : Grown) → EndsFirst parts → parts.barren b ≡ None → IsFirst rest.tree
    → IsFirst (unless_ended (parts.blocked b) s rest).tree
never_first parts b s rest ends barren first =
    unless_first (parts.blocked b) s rest (λ t e. absurd (none-some t (sym (ends.blocked b barren) ∙ e))) (λ e. first)

-- ---- the steps of a search

stop_first : (p : Problem) (b : Branching) (w : List (ℕ × ℕ)) (s : State) → IsFirst (stopped_leaf p b w s).tree
unfolding stopped_leaf
stop_first p b w s = leaf_first denominator w

full_first : (parts : Parts) (set : List ℕ) (s : State) → IsFirst (full_on parts set s).tree
unfolding full_on full_by
full_first parts set s = by (number_in_pool s set)
  where
    by : (o : Option ℕ) → IsFirst (full_by parts set s o).tree
    by (Some x) = leaf_first denominator (whole_on x)
    by None = leaf_first denominator (whole_on (length s.cuts + 1))

ended_first : (parts : Parts) (b : Branching) (s : State) (set : List ℕ) → EndsFirst parts → IsFirst (ended parts b s set).tree
unfolding ended
ended_first parts b s set ends =
    unless_first (parts.barren b) s (unless_ended (parts.blocked b) s (full_on parts set s)) (ends.barren b)
    (λ barren. never_first parts b s (full_on parts set s) ends barren (full_first parts set s))

halved_first : (go : Handling) (k : ℕ) (b : Branching) (w : List (ℕ × ℕ)) (s : State) → AllFirst go → IsFirst (halved go k b w s).tree
unfolding halved
halved_first go k b w s all =
    let opened = go (open_child b k) w (two_more s) in
    let closed = go (closed_child b k) w opened.state in
    branch_first k opened.tree closed.tree (all (open_child b k) w (two_more s)) (all (closed_child b k) w opened.state)

parted_first : (p : Problem) (parts : Parts) (n : Option ℕ) (go : Handling) (a : Advice) (b : Branching) (w : List (ℕ × ℕ)) (s : State)
    → EndsFirst parts → AllFirst go → IsFirst (parted p parts n go a b w s).tree
unfolding parted
parted_first p parts n go a b w s ends all =
    let rest = if may_split n s then halved go (parts.nearest a b) b w s else stopped_leaf p b w s in
    on_first (parts.only b) (ended parts b s) rest (λ set. ended_first parts b s set ends)
    (either_first (may_split n s) (halved go (parts.nearest a b) b w s) (stopped_leaf p b w s)
    (halved_first go (parts.nearest a b) b w s all) (stop_first p b w s))

beside_first : (side : Side) (k : ℕ) (w : List (ℕ × ℕ)) (t : Tree) → IsFirst t → IsFirst (beside side k w t)
beside_first stays_open k w t first = branch_first k t (leaf denominator w) first (leaf_first denominator w)
beside_first stays_closed k w t first = branch_first k (leaf denominator w) t (leaf_first denominator w) first

fixed_first : (p : Problem) (parts : Parts) (n : Option ℕ) (go : Handling) (a : Advice) (fs : List (ℕ × Side)) (b : Branching) (w : List (ℕ × ℕ)) (s : State)
    → EndsFirst parts → AllFirst go → IsFirst (fixed p parts n go a fs b w s).tree
unfolding fixed
fixed_first p parts n go a [] b w s ends all = parted_first p parts n go a b w s ends all
fixed_first p parts n go a (f ∷ rest) b w s ends all =
    let next = fixed p parts n go a rest (child_on f.1 b f.0) w (two_more s) in
    let kept = fixed_first p parts n go a rest (child_on f.1 b f.0) w (two_more s) ends all in
    either_first (is_some (parts.only b)) (parted p parts n go a b w s) (if may_split n s then with_leaf f w next else stopped_leaf p b w s)
    (parted_first p parts n go a b w s ends all)
    (either_first (may_split n s) (with_leaf f w next) (stopped_leaf p b w s) (beside_first f.1 f.0 w next.tree kept) (stop_first p b w s))

after_first : (p : Problem) (parts : Parts) (n : Option ℕ) (go : Handling) (b : Branching) (r : Round) → EndsFirst parts → AllFirst go
    → IsFirst (after_rounds p parts n go b r).tree
unfolding after_rounds
after_first p parts n go b r ends all =
    either_first (closes_at p r.state b r.weights) (record { state = r.state; tree = leaf denominator r.weights })
    (fixed p parts n go r.advice (fixings p r.state b r.weights) b r.weights r.state) (leaf_first denominator r.weights)
    (fixed_first p parts n go r.advice (fixings p r.state b r.weights) b r.weights r.state ends all)

handled_first : (p : Problem) (parts : Parts) (n : Option ℕ) (go : Handling) (b : Branching) (w : List (ℕ × ℕ)) (s : State) → EndsFirst parts
    → AllFirst go → IsFirst (handled p parts n go b w s).tree
unfolding handled explored
handled_first p parts n go b w s ends all =
    let searched_on = explored p parts n go b w s in
    let alone = on_set (parts.only b) (λ set. full_on parts set s) searched_on in
    let later = unless_ended (parts.blocked b) s alone in
    unless_first (parts.barren b) s (if is_stopped s then stopped_leaf p b w s else later) (ends.barren b)
    (λ barren. either_first (is_stopped s) (stopped_leaf p b w s) later (stop_first p b w s)
    (never_first parts b s alone ends barren
    (on_first (parts.only b) (λ set. full_on parts set s) searched_on (λ set. full_first parts set s)
    (after_first p parts n go b (rounds 2 p parts b (round p parts b w s)) ends all))))

node_first : (depth : ℕ) (p : Problem) (parts : Parts) (n : Option ℕ) → EndsFirst parts → AllFirst (node depth p parts n)
unfolding node
node_first zero p parts n ends b w s = All-cons IsFirstLine no_hub [] tt (All-nil IsFirstLine)
node_first (suc depth) p parts n ends b w s = handled_first p parts n (node depth p parts n) b w s ends (node_first depth p parts n ends)

-- ---- the ends of an unlimited problem

closed_first : (b : Branching) (t : Tree) → barren_end None b ≡ Some t → IsFirst t
unfolding barren_end all_closed
closed_first b t is =
    by_test (nat_eq (length b.inside) 0 && nat_eq (length b.free) 0)
    (λ e. subst IsFirst (same_Some empty t (rw e at is)) (All-cons IsFirstLine no_hub [] tt (All-nil IsFirstLine)))
    (λ e. absurd (none-some t (rw e at is)))

none_told : (o : Option Tree) → None ≡ option_map preorder o → o ≡ None
none_told None is = refl
none_told (Some t) is = absurd (none-some (preorder t) is)

ends_first : (kind : CutKind) (p : Problem) → IsProblem p → IsUnlimited p → EndsFirst (parts_for kind p)
ends_first kind p ok any = record {
  barren = λ b t is. closed_first b t (barren_is p None b any.any_number ∙ is);
  blocked = λ b barren. none_told ((parts_of p).blocked b) (never_blocked p b any.any_length (some_open p b ok barren));
}

-- whatever the search begins with
pub first_from : (kind : CutKind) (p : Problem) (n : Option ℕ) (s : State) → IsProblem p → IsUnlimited p
    → All IsFirstLine (preorder (searched p (parts_for kind p) n s).tree)
unfolding searched
first_from kind p n s ok any = node_first (length p.candidates + 1) p (parts_for kind p) n (ends_first kind p ok any) (root p) [] s

pub found_first : (kind : CutKind) (p : Problem) (n : Option ℕ) → IsProblem p → IsUnlimited p → All IsFirstLine (preorder (found_by kind p n).tree)
found_first kind p n ok any = first_from kind p n (begun_for p (parts_for kind p) p.wanted) ok any
