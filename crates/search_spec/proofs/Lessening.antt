-- Each round leaves fewer node evaluations, so the rounds end.
use Rattle.std.proofs.Common.{◌≡◌, ℕ, zero, suc, ◌+◌, ◌-◌, ◌*◌, ◌^◌, min, ◌<◌, ◌≤◌, Bool, true, false, cond, nat_lt, List, [], ◌∷◌, ◌++◌, length, map, Contains, Option, Some, None, is_some, option_map, position, bytes_eq, if◌then◌else◌, refl, ap, sym, subst, ◌∙◌, true≢false, pow_pos, lt-ltb, ltb-true, arith}
use Rattle.std.specs.List.{position_or_len}
use Rattle.std.proofs.lemmas.List.Recursion.{is_position_or_len}
use Rattle.std.proofs.lemmas.Bool.{cond_both}
use Rattle.std.proofs.lemmas.Slice.Eq.{bytes_eq-Decides}
use Rattle.hub_spec.specs.Problem.{Problem}
use Rattle.hub_spec.specs.Trees.{Branching, open_child, closed_child, TreeLine, branch_on, leaf_of, preorder}
use Rattle.hub_spec.proofs.SumLemmas.{by_test}
use Rattle.search_spec.specs.States.{denominator, State, Advice, Parts, is_of, number_in_pool}
use Rattle.search_spec.specs.Steps.{separated, may_split, two_more, stopped_leaf, Side, stays_open, stays_closed, child_on}
use Rattle.search_spec.specs.Laws.{AreSound}
use Rattle.search_spec.proofs.Fixings.{AreFixings, fixings_kept}
use Rattle.search_spec.proofs.Invariants.{IsReady}
use Rattle.search_spec.proofs.Leaves.{double}
use Rattle.search_spec.proofs.Parting.{child_power, child_ready}
use Rattle.search_spec.specs.Places.{Pending, Place, line, open_at, Standing, lines_of}
use Rattle.search_spec.specs.Turns.{on_some, most_waits, with_set, fresh, stops_at, halved, after_fixings, child_of, beside_leaf, split_up}
use Rattle.search_spec.specs.Lasting.{turns_of, node_turns, turns_left}
use Rattle.search_spec.proofs.Turning.{on_some_both}
use Rattle.search_spec.proofs.Taking.{side_rooms}

-- ---- sets that are known

abbrev pub IsKnowing : State → State → Type 0
IsKnowing s t = (set : List ℕ) → is_some (number_in_pool s set) ≡ true → is_some (number_in_pool t set) ≡ true

-- the place of a set in a list, or the list's length
abbrev place : List ℕ → List (Option (List ℕ)) → ℕ
place set [] = 0
place set (x ∷ xs) = cond (is_of set x) 0 (1 + place set xs)

place_is : (set : List ℕ) (sets : List (Option (List ℕ))) → place set sets ≡ position_or_len (is_of set) sets
place_is set sets = is_position_or_len (place set) (is_of set) refl (λ x xs. refl) sets

by_place : (set : List ℕ) (sets : List (Option (List ℕ))) → is_some (option_map (λ i. i + 1) (position (is_of set) sets)) ≡ nat_lt (position_or_len (is_of set) sets) (length sets)
by_place set sets =
    by_test (nat_lt (position_or_len (is_of set) sets) (length sets)) (λ e. rw e refl) (λ e. rw e refl)

-- a set is known where its place is one
known_when : (s : State) (set : List ℕ) → place set s.sets < length s.sets → is_some (number_in_pool s set) ≡ true
known_when s set below = by_place set s.sets ∙ lt-ltb (position_or_len (is_of set) s.sets) (length s.sets) (omega (arith, below, place_is set s.sets))

place_when : (s : State) (set : List ℕ) → is_some (number_in_pool s set) ≡ true → place set s.sets < length s.sets
place_when s set e =
    omega (arith, place_is set s.sets, ltb-true (position_or_len (is_of set) s.sets) (length s.sets) (sym (by_place set s.sets) ∙ e))

-- one more at the end
pushed_in : (set : List ℕ) (other : Option (List ℕ)) (sets : List (Option (List ℕ))) → place set sets < length sets → place set (sets ++ other ∷ []) < length (sets ++ other ∷ [])
pushed_in set other [] below = absurd (omega (arith, below))
pushed_in set other (x ∷ xs) below =
    by_test (is_of set x) (λ e. rw e (omega arith))
    (λ e. let less : 1 + place set xs < suc (length xs) = rw e at below in rw e (omega (arith, pushed_in set other xs (omega (arith, less)))))

last_in : (set : List ℕ) (sets : List (Option (List ℕ))) → place set (sets ++ Some set ∷ []) < length (sets ++ Some set ∷ [])
last_in set [] = let itself : bytes_eq set set ≡ true = (bytes_eq-Decides set set).1 refl in rw itself (omega arith)
last_in set (x ∷ xs) = by_test (is_of set x) (λ e. rw e (omega arith)) (λ e. rw e (omega (arith, last_in set xs)))

separated_knows : (parts : Parts) (set order : List ℕ) (s : State) → IsKnowing s (separated parts set order s)
unfolding separated
separated_knows parts set order s = λ other e. known_when (separated parts set order s) other (pushed_in other (Some set) s.sets (place_when s other e))

separated_known : (parts : Parts) (set order : List ℕ) (s : State) → is_some (number_in_pool (separated parts set order s) set) ≡ true
unfolding separated
separated_known parts set order s = known_when (separated parts set order s) set (last_in set s.sets)

pub same_knows : (s : State) → IsKnowing s s
same_knows s = λ set e. e

pub with_set_knows : (parts : Parts) (set order : List ℕ) (s : State) → IsKnowing s (with_set parts set order s)
unfolding with_set
with_set_knows parts set order s =
    cond_both (is_some (number_in_pool s set)) s (separated parts set order s) (IsKnowing s) (λ e. same_knows s) (λ e. separated_knows parts set order s)

pub with_set_known : (parts : Parts) (set order : List ℕ) (s : State) → is_some (number_in_pool (with_set parts set order s) set) ≡ true
unfolding with_set
with_set_known parts set order s =
    cond_both (is_some (number_in_pool s set)) s (separated parts set order s) (λ (t : State). is_some (number_in_pool t set) ≡ true) (λ e. e)
    (λ e. separated_known parts set order s)

-- ---- node evaluations that are left

alone_turns : (s t : State) (set : List ℕ) → IsKnowing s t
    → (if is_some (number_in_pool t set) then 1 else 2) ≤ (if is_some (number_in_pool s set) then 1 else 2)
alone_turns s t set knows =
    by_test (is_some (number_in_pool s set)) (λ e. let f = knows set e in rw (e, f) (omega arith))
    (λ e. rw e (at_most (is_some (number_in_pool t set))))
  where
    at_most : (c : Bool) → (if c then 1 else 2) ≤ 2
    at_most true = omega arith
    at_most false = omega arith

node_lower : (parts : Parts) (s t : State) (x : Pending) → IsKnowing s t → node_turns parts t x ≤ node_turns parts s x
unfolding node_turns
node_lower parts s t x knows = lower_by (parts.only x.branch) (turns_of (length x.branch.free) - min x.waits most_waits) s t knows
  where
    lower_by : (o : Option (List ℕ)) (m : ℕ) (s t : State) → IsKnowing s t
        → on_some o (λ set. if is_some (number_in_pool t set) then 1 else 2) m ≤ on_some o (λ set. if is_some (number_in_pool s set) then 1 else 2) m
    lower_by None m s t knows = omega arith
    lower_by (Some set) m s t knows = alone_turns s t set knows

pub left_lower : (parts : Parts) (s t : State) (places : List Place) → IsKnowing s t → turns_left parts t places ≤ turns_left parts s places
unfolding turns_left
left_lower parts s t [] knows = omega arith
left_lower parts s t (line l ∷ rest) knows = left_lower parts s t rest knows
left_lower parts s t (open_at x ∷ rest) knows = omega (arith, node_lower parts s t x knows, left_lower parts s t rest knows)

pub left_both : (parts : Parts) (s : State) (xs ys : List Place) → turns_left parts s (xs ++ ys) ≡ turns_left parts s xs + turns_left parts s ys
unfolding turns_left
left_both parts s [] ys = omega arith
left_both parts s (line l ∷ rest) ys = left_both parts s rest ys
left_both parts s (open_at x ∷ rest) ys = omega (arith, left_both parts s rest ys)

pub lines_left : (parts : Parts) (s : State) (ls : List TreeLine) → turns_left parts s (map line ls) ≡ 0
unfolding turns_left
lines_left parts s [] = refl
lines_left parts s (l ∷ ls) = lines_left parts s ls

-- a node in which a set is left alone has at most two
pub only_turns : (parts : Parts) (s : State) (x : Pending) → is_some (parts.only x.branch) ≡ true → node_turns parts s x ≤ 2
unfolding node_turns
only_turns parts s x e = at_most (parts.only x.branch) s (turns_of (length x.branch.free) - min x.waits most_waits) e
  where
    at_most : (o : Option (List ℕ)) (s : State) (m : ℕ) → is_some o ≡ true → on_some o (λ set. if is_some (number_in_pool s set) then 1 else 2) m ≤ 2
    at_most None s m e = absurd (true≢false (sym e))
    at_most (Some set) s m e = by_test (is_some (number_in_pool s set)) (λ f. rw f (omega arith)) (λ f. rw f (omega arith))

-- others have those of their free nodes, less their waits
pub more_turns : (parts : Parts) (s : State) (x : Pending) → parts.only x.branch ≡ None
    → node_turns parts s x ≡ turns_of (length x.branch.free) - min x.waits most_waits
unfolding node_turns
more_turns parts s x none = rw none refl

none_of : (o : Option (List ℕ)) → is_some o ≡ false → o ≡ None
none_of None e = refl
none_of (Some set) e = absurd (true≢false e)

pub any_turns : (parts : Parts) (s : State) (x : Pending) → node_turns parts s x + 3 ≤ 5 * 2 ^ length x.branch.free
any_turns parts s x =
    by_test (is_some (parts.only x.branch))
    (λ e. omega (arith, only_turns parts s x e, pow_pos (length x.branch.free)))
    (λ e. omega (arith, more_turns parts s x (none_of (parts.only x.branch) e), pow_pos (length x.branch.free)))

-- ---- a split

-- the node evaluations left after a step, of at most so many
abbrev LeavesTurns : Parts → ℕ → Standing → Type 0
LeavesTurns parts most t = turns_left parts t.state t.places + 3 ≤ most

-- the same with three node evaluations less
abbrev LeavesFewer : Parts → ℕ → Standing → Type 0
LeavesFewer parts most t = turns_left parts t.state t.places + 6 ≤ most

stops_left : (p : Problem) (parts : Parts) (b : Branching) (w : List (ℕ × ℕ)) (s : State) → turns_left parts (stops_at p b w s).state (stops_at p b w s).places ≡ 0
unfolding stopped_leaf turns_left
stops_left p parts b w s = refl

pub one_left : (parts : Parts) (s : State) (x : Pending) → turns_left parts s (open_at x ∷ []) ≡ node_turns parts s x
unfolding turns_left
one_left parts s x = omega arith

two_left : (parts : Parts) (s : State) (k : ℕ) (x y : Pending) → turns_left parts s (line (branch_on k) ∷ open_at x ∷ open_at y ∷ []) ≡ node_turns parts s x + node_turns parts s y
unfolding turns_left
two_left parts s k x y = omega arith

-- the powers of a child
child_double : (side : Side) (b : Branching) (k : ℕ) → Contains b.free k → 2 ^ length b.free ≡ 2 ^ length (child_on side b k).free + 2 ^ length (child_on side b k).free
child_double side b k free = sym (child_power side b k free) ∙ double (length (child_on side b k).free)

pub two_least_power : (f : ℕ) → 1 ≤ f → 2 ≤ 2 ^ f
two_least_power zero some = absurd (omega arith)
two_least_power (suc f) some = let one : suc f ≡ f + 1 = omega arith in omega (arith, ap (λ (m : ℕ). 2 ^ m) one, double f, pow_pos f)

halved_left : (p : Problem) (parts : Parts) (n : Option ℕ) (advice : Advice) (x : Pending) (s : State) → AreSound p parts → 1 ≤ length x.branch.free
    → LeavesFewer parts (5 * 2 ^ length x.branch.free) (halved p parts n advice x s)
unfolding halved
halved_left p parts n advice x s sound some =
    let b = x.branch in
    let k = parts.nearest advice b in
    let free = sound.nearest advice b some in
    let one = fresh (open_child b k) x.weights in
    let two = fresh (closed_child b k) x.weights in
    let both : Standing = record { state = two_more s; places = line (branch_on k) ∷ open_at one ∷ open_at two ∷ [] } in
    cond_both (may_split n s) both (stops_at p b x.weights s) (LeavesFewer parts (5 * 2 ^ length b.free))
    (λ e. omega (
      arith,
      two_left parts (two_more s) k one two,
      any_turns parts (two_more s) one,
      any_turns parts (two_more s) two,
      child_double stays_open b k free,
      child_double stays_closed b k free,
    ))
    (λ e. omega (arith, stops_left p parts b x.weights s, two_least_power (length b.free) some))

-- a node that more sets than one are left in has a free node
pub free_of : (p : Problem) (parts : Parts) (x : Pending) (s : State) → AreSound p parts → IsReady p x.branch x.weights s → parts.only x.branch ≡ None
    → 1 ≤ length x.branch.free
free_of p parts x s sound ready none = sound.some_free x.branch ready.is_branch ready.has_room none

after_left : (p : Problem) (parts : Parts) (n : Option ℕ) (advice : Advice) (x : Pending) (s : State) → AreSound p parts
    → IsReady p x.branch x.weights s → LeavesTurns parts (5 * 2 ^ length x.branch.free) (after_fixings p parts n advice x s)
unfolding after_fixings
after_left p parts n advice x s sound ready =
    let b = x.branch in
    let still : Standing = record { state = s; places = open_at x ∷ [] } in
    let two = halved p parts n advice x s in
    on_some_both (parts.barren b) (λ t. record { state = s; places = lines_of t }) (if is_some (parts.only b) then still else two)
    (LeavesTurns parts (5 * 2 ^ length b.free))
    (λ t e. omega (arith, lines_left parts s (preorder t), pow_pos (length b.free)))
    (λ e. cond_both (is_some (parts.only b)) still two (LeavesTurns parts (5 * 2 ^ length b.free))
    (λ f. omega (arith, one_left parts s x, only_turns parts s x f, pow_pos (length b.free)))
    (λ f. let left = halved_left p parts n advice x s sound (free_of p parts x s sound ready (none_of (parts.only b) f)) in omega (arith, left)))

after_fewer : (p : Problem) (parts : Parts) (n : Option ℕ) (advice : Advice) (x : Pending) (s : State) → AreSound p parts
    → IsReady p x.branch x.weights s → parts.only x.branch ≡ None → LeavesFewer parts (5 * 2 ^ length x.branch.free) (after_fixings p parts n advice x s)
unfolding after_fixings
after_fewer p parts n advice x s sound ready none =
    let b = x.branch in
    let still : Standing = record { state = s; places = open_at x ∷ [] } in
    let two = halved p parts n advice x s in
    let some = free_of p parts x s sound ready none in
    on_some_both (parts.barren b) (λ t. record { state = s; places = lines_of t }) (if is_some (parts.only b) then still else two)
    (LeavesFewer parts (5 * 2 ^ length b.free))
    (λ t e. omega (arith, lines_left parts s (preorder t), two_least_power (length b.free) some))
    (λ e. cond_both (is_some (parts.only b)) still two (LeavesFewer parts (5 * 2 ^ length b.free))
    (λ f. absurd (true≢false (sym f ∙ ap (λ (o : Option (List ℕ)). is_some o) none)))
    (λ f. halved_left p parts n advice x s sound some))

beside_left : (parts : Parts) (s : State) (side : Side) (k : ℕ) (w : List (ℕ × ℕ)) (places : List Place)
    → turns_left parts s (beside_leaf side k w places) ≡ turns_left parts s places
unfolding turns_left
beside_left parts s stays_open k w places = omega (arith, left_both parts s places (line (leaf_of denominator w) ∷ []))
beside_left parts s stays_closed k w places = refl

-- the fixings that are left are those of the child
child_fixings : (p : Problem) (x : Pending) (s : State) (f : ℕ × Side) (rest : List (ℕ × Side)) → AreFixings p s.cuts s.cost x.weights x.branch (f ∷ rest)
    → AreFixings p (two_more s).cuts (two_more s).cost x.weights (child_of x f).branch rest
unfolding two_more
child_fixings p x s f rest are = fixings_kept p s.cuts s.cost x.weights x.branch f.0 f.1 rest are.0 are.2 are.3

-- the child of a fixing is ready
fixed_ready : (p : Problem) (parts : Parts) (x : Pending) (s : State) (f : ℕ × Side) → AreSound p parts → IsReady p x.branch x.weights s
    → parts.only x.branch ≡ None → Contains x.branch.free f.0 → IsReady p (child_of x f).branch x.weights (two_more s)
fixed_ready p parts x s f sound ready none free =
    let rooms = side_rooms p f.1 x.branch f.0 (sound.rooms x.branch f.0 ready.is_branch ready.has_room none free) in
    child_ready p f.1 x.branch f.0 x.weights s free rooms.0 ready

split_left : (p : Problem) (parts : Parts) (n : Option ℕ) (advice : Advice) (fs : List (ℕ × Side)) (x : Pending) (s : State) → AreSound p parts
    → IsReady p x.branch x.weights s → AreFixings p s.cuts s.cost x.weights x.branch fs
    → LeavesTurns parts (5 * 2 ^ length x.branch.free) (split_up p parts n advice fs x s)
unfolding split_up
split_left p parts n advice [] x s sound ready are = after_left p parts n advice x s sound ready
split_left p parts n advice (f ∷ rest) x s sound ready are =
    let b = x.branch in
    let kept = split_up p parts n advice rest (child_of x f) (two_more s) in
    let one : Standing = record { state = kept.state; places = beside_leaf f.1 f.0 x.weights kept.places } in
    cond_both (is_some (parts.only b)) (after_fixings p parts n advice x s) (if may_split n s then one else stops_at p b x.weights s)
    (LeavesTurns parts (5 * 2 ^ length b.free))
    (λ e. after_left p parts n advice x s sound ready)
    (λ e. cond_both (may_split n s) one (stops_at p b x.weights s) (LeavesTurns parts (5 * 2 ^ length b.free))
    (λ g. omega (
      arith,
      beside_left parts kept.state f.1 f.0 x.weights kept.places,
      child_double f.1 b f.0 are.0,
      split_left p parts n advice rest (child_of x f) (two_more s) sound
          (fixed_ready p parts x s f sound ready (none_of (parts.only b) e) are.0) (child_fixings p x s f rest are),
    ))
    (λ g. omega (arith, stops_left p parts b x.weights s, pow_pos (length b.free))))

pub split_fewer : (p : Problem) (parts : Parts) (n : Option ℕ) (advice : Advice) (fs : List (ℕ × Side)) (x : Pending) (s : State) → AreSound p parts
    → IsReady p x.branch x.weights s → AreFixings p s.cuts s.cost x.weights x.branch fs → parts.only x.branch ≡ None
    → LeavesFewer parts (5 * 2 ^ length x.branch.free) (split_up p parts n advice fs x s)
unfolding split_up
split_fewer p parts n advice [] x s sound ready are none = after_fewer p parts n advice x s sound ready none
split_fewer p parts n advice (f ∷ rest) x s sound ready are none =
    let b = x.branch in
    let kept = split_up p parts n advice rest (child_of x f) (two_more s) in
    let one : Standing = record { state = kept.state; places = beside_leaf f.1 f.0 x.weights kept.places } in
    cond_both (is_some (parts.only b)) (after_fixings p parts n advice x s) (if may_split n s then one else stops_at p b x.weights s)
    (LeavesFewer parts (5 * 2 ^ length b.free))
    (λ e. after_fewer p parts n advice x s sound ready none)
    (λ e. cond_both (may_split n s) one (stops_at p b x.weights s) (LeavesFewer parts (5 * 2 ^ length b.free))
    (λ g. omega (
      arith,
      beside_left parts kept.state f.1 f.0 x.weights kept.places,
      child_double f.1 b f.0 are.0,
      pow_pos (length (child_of x f).branch.free),
      split_left p parts n advice rest (child_of x f) (two_more s) sound (fixed_ready p parts x s f sound ready none are.0) (child_fixings p x s f rest are),
    ))
    (λ g. omega (arith, stops_left p parts b x.weights s, two_least_power (length b.free) (free_of p parts x s sound ready none))))

-- ---- what a split knows: its sets are those before

after_sets : (p : Problem) (parts : Parts) (n : Option ℕ) (advice : Advice) (x : Pending) (s : State) → (after_fixings p parts n advice x s).state.sets ≡ s.sets
unfolding after_fixings halved stopped_leaf two_more
after_sets p parts n advice x s =
    let b = x.branch in
    let still : Standing = record { state = s; places = open_at x ∷ [] } in
    let k = parts.nearest advice b in
    let both : Standing = record { state = two_more s; places = line (branch_on k) ∷ open_at (fresh (open_child b k) x.weights) ∷ open_at (fresh (closed_child b k) x.weights) ∷ [] } in
    let two = if may_split n s then both else stops_at p b x.weights s in
    on_some_both (parts.barren b) (λ t. record { state = s; places = lines_of t }) (if is_some (parts.only b) then still else two)
    (λ (t : Standing). t.state.sets ≡ s.sets) (λ t e. refl)
    (λ e. cond_both (is_some (parts.only b)) still two (λ (t : Standing). t.state.sets ≡ s.sets) (λ f. refl)
    (λ f. cond_both (may_split n s) both (stops_at p b x.weights s) (λ (t : Standing). t.state.sets ≡ s.sets) (λ g. refl) (λ g. refl)))

pub split_sets : (p : Problem) (parts : Parts) (n : Option ℕ) (advice : Advice) (fs : List (ℕ × Side)) (x : Pending) (s : State)
    → (split_up p parts n advice fs x s).state.sets ≡ s.sets
unfolding split_up stopped_leaf two_more
split_sets p parts n advice [] x s = after_sets p parts n advice x s
split_sets p parts n advice (f ∷ rest) x s =
    let kept = split_up p parts n advice rest (child_of x f) (two_more s) in
    let one : Standing = record { state = kept.state; places = beside_leaf f.1 f.0 x.weights kept.places } in
    cond_both (is_some (parts.only x.branch)) (after_fixings p parts n advice x s) (if may_split n s then one else stops_at p x.branch x.weights s)
    (λ (t : Standing). t.state.sets ≡ s.sets) (λ e. after_sets p parts n advice x s)
    (λ e. cond_both (may_split n s) one (stops_at p x.branch x.weights s) (λ (t : Standing). t.state.sets ≡ s.sets)
    (λ g. split_sets p parts n advice rest (child_of x f) (two_more s)) (λ g. refl))

pub sets_know : (s t : State) → t.sets ≡ s.sets → IsKnowing s t
sets_know s t same = λ set e. subst (λ (xs : List (Option (List ℕ))). is_some (option_map (λ i. i + 1) (position (is_of set) xs)) ≡ true) (sym same) e
