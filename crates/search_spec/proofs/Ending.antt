-- A round leaves fewer node evaluations than there were at its start, and so the rounds end.
use Rattle.std.proofs.Common.{◌≡◌, ℕ, zero, suc, ◌+◌, ◌-◌, min, ◌<◌, ◌≤◌, Bool, true, false, not, ◌&&◌, nat_lt, List, [], ◌∷◌, ◌++◌, length, Option, Some, None, is_some, if◌then◌else◌, refl, ap, sym, ◌∙◌, true≢false, ltb-true, arith}
use Rattle.std.proofs.lemmas.Bool.{cond_both, and_parts}
use Rattle.hub_spec.specs.Problem.{Problem}
use Rattle.hub_spec.specs.Trees.{Branching, Tree, TreeLine, leaf, preorder}
use Rattle.hub_spec.proofs.SumLemmas.{by_test}
use Rattle.search_spec.specs.States.{denominator, State, Advice, Parts, whole_on, number_in_pool, is_stopped}
use Rattle.search_spec.specs.Steps.{closes_at, better, Side, fixings}
use Rattle.search_spec.specs.Laws.{IsState, AreSound}
use Rattle.search_spec.proofs.Invariants.{IsReady, IsNext, next_same, next_twice}
use Rattle.search_spec.specs.Walks.{filled}
use Rattle.search_spec.specs.Places.{Pending, Place, line, open_at, Outcome, ends, asks, splits, Standing, has_pending}
use Rattle.search_spec.specs.Turns.{on_some, most_waits, turn_alone, turn_advised, turn, with_set, waited, split_up, taken, turns_taken, most_turns, next_round, goes_on, rounds}
use Rattle.search_spec.specs.Lasting.{turns_of, node_turns, turns_left}
use Rattle.search_spec.proofs.Leading.{Leads}
use Rattle.search_spec.proofs.Turning.{on_some_both, IsFor, IsSoundSplit, turn_is}
use Rattle.search_spec.proofs.Taking.{for_next, taken_is}
use Rattle.search_spec.proofs.Rounding.{IsStanding, round_stands, going_when}
use Rattle.search_spec.proofs.Lessening.{IsKnowing, with_set_knows, with_set_known, same_knows, left_lower, left_both, lines_left, more_turns, free_of, two_least_power, one_left, split_fewer, split_sets, sets_know}

-- ---- one node evaluation

-- what is left after an outcome is taken is less than the evaluations of the node at the start
abbrev Falls : Problem → Parts → Option ℕ → Pending → State → State → Outcome → Type 0
Falls p parts n x start s o =
    turns_left parts (taken p parts n x o s).state (taken p parts n x o s).places + 1 ≤ node_turns parts start x

-- each node has one evaluation at least
none_of : (o : Option (List ℕ)) → is_some o ≡ false → o ≡ None
none_of None e = refl
none_of (Some set) e = absurd (true≢false e)

on_least : (o : Option (List ℕ)) (s : State) (m : ℕ) → is_some o ≡ true → 1 ≤ on_some o (λ set. if is_some (number_in_pool s set) then 1 else 2) m
on_least None s m e = absurd (true≢false (sym e))
on_least (Some set) s m e = by_test (is_some (number_in_pool s set)) (λ f. rw f (omega arith)) (λ f. rw f (omega arith))

alone_least : (parts : Parts) (s : State) (x : Pending) → is_some (parts.only x.branch) ≡ true → 1 ≤ node_turns parts s x
unfolding node_turns
alone_least parts s x e = on_least (parts.only x.branch) s (turns_of (length x.branch.free) - min x.waits most_waits) e

node_least : (parts : Parts) (s : State) (x : Pending) → (parts.only x.branch ≡ None → 1 ≤ length x.branch.free) → 1 ≤ node_turns parts s x
node_least parts s x some =
    by_test (is_some (parts.only x.branch)) (λ e. alone_least parts s x e)
    (λ e. let none = none_of (parts.only x.branch) e in omega (arith, more_turns parts s x none, two_least_power (length x.branch.free) (some none)))

end_falls : (p : Problem) (parts : Parts) (n : Option ℕ) (x : Pending) (start s : State) (t : Tree) → 1 ≤ node_turns parts start x
    → Falls p parts n x start s (ends t)
unfolding taken
end_falls p parts n x start s t least = omega (arith, lines_left parts s (preorder t), least)

-- the evaluations of a node in which the set alone is left
set_turns : (parts : Parts) (s : State) (x : Pending) (set : List ℕ) → parts.only x.branch ≡ Some set
    → node_turns parts s x ≡ (if is_some (number_in_pool s set) then 1 else 2)
unfolding node_turns
set_turns parts s x set only = rw only refl

alone_asks : (p : Problem) (parts : Parts) (n : Option ℕ) (x : Pending) (start s : State) (set : List ℕ) → parts.only x.branch ≡ Some set
    → number_in_pool start set ≡ None → Falls p parts n x start s (asks set (parts.ascending set) x.weights false)
unfolding taken
alone_asks p parts n x start s set only is =
    let t = with_set parts set (parts.ascending set) s in
    let known = with_set_known parts set (parts.ascending set) s in
    let unknown : is_some (number_in_pool start set) ≡ false = ap (λ (o : Option ℕ). is_some o) is in
    let before : node_turns parts start x ≡ 2 = set_turns parts start x set only ∙ ap (λ (c : Bool). if c then 1 else 2) unknown in
    let after : node_turns parts t (waited x x.weights false) ≡ 1 = set_turns parts t (waited x x.weights false) set only ∙ ap (λ (c : Bool). if c then 1 else 2) known in
    omega (arith, before, after, one_left parts t (waited x x.weights false))

alone_falls : (p : Problem) (parts : Parts) (n : Option ℕ) (x : Pending) (start s : State) (set : List ℕ) (o : Option ℕ) → parts.only x.branch ≡ Some set
    → number_in_pool start set ≡ o → 1 ≤ node_turns parts start x → Falls p parts n x start s (turn_alone parts x set o)
unfolding turn_alone
alone_falls p parts n x start s set (Some c) only is least = end_falls p parts n x start s (leaf denominator (whole_on c)) least
alone_falls p parts n x start s set None only is least = alone_asks p parts n x start s set only is

asks_fall : (p : Problem) (parts : Parts) (n : Option ℕ) (x : Pending) (start s : State) (set order : List ℕ) (w : List (ℕ × ℕ))
    → parts.only x.branch ≡ None → 1 ≤ length x.branch.free → x.waits < 2 → Falls p parts n x start s (asks set order w true)
unfolding taken
asks_fall p parts n x start s set order w none some few =
    let t = with_set parts set order s in
    omega (
      arith,
      few,
      more_turns parts start x none,
      more_turns parts t (waited x w true) none,
      one_left parts t (waited x w true),
      two_least_power (length x.branch.free) some,
    )

splits_fall : (p : Problem) (parts : Parts) (n : Option ℕ) (x : Pending) (start s : State) (w : List (ℕ × ℕ)) (fs : List (ℕ × Side)) (advice : Advice)
    → AreSound p parts → IsSoundSplit p s x.branch w fs → parts.only x.branch ≡ None → 1 ≤ length x.branch.free
    → Falls p parts n x start s (splits w fs advice)
unfolding taken
splits_fall p parts n x start s w fs advice sound is none some =
    omega (
      arith,
      more_turns parts start x none,
      two_least_power (length x.branch.free) some,
      split_fewer p parts n advice fs (waited x w false) s sound is.ready is.are none,
    )

advised_falls : (p : Problem) (parts : Parts) (n : Option ℕ) (x : Pending) (start s : State) → AreSound p parts → 1 ≤ node_turns parts start x
    → parts.only x.branch ≡ None → 1 ≤ length x.branch.free → IsFor p s x.branch (turn_advised p parts start x)
    → Falls p parts n x start s (turn_advised p parts start x)
unfolding turn_advised
advised_falls p parts n x start s sound least none some is =
    let b = x.branch in
    let advice = parts.advice start b in
    let best = better p start b x.weights advice.weights in
    let set = parts.pick advice b in
    let ask = asks set (parts.falling advice set) best true in
    let split = splits best (fixings p start b best) advice in
    let new = not (is_some (number_in_pool start set)) && nat_lt x.waits most_waits in
    cond_both (closes_at p start b best) (ends (leaf denominator best)) (if new then ask else split)
    (λ (o : Outcome). IsFor p s b o → Falls p parts n x start s o)
    (λ e for. end_falls p parts n x start s (leaf denominator best) least)
    (λ e. cond_both new ask split (λ (o : Outcome). IsFor p s b o → Falls p parts n x start s o)
    (λ f for. asks_fall p parts n x start s set (parts.falling advice set) best none some
    (ltb-true x.waits 2 (and_parts (not (is_some (number_in_pool start set))) (nat_lt x.waits most_waits) f).1))
    (λ f for. splits_fall p parts n x start s best (fixings p start b best) advice sound for none some)) is

turn_falls : (p : Problem) (parts : Parts) (n : Option ℕ) (x : Pending) (start s : State) → AreSound p parts → IsReady p x.branch x.weights start
    → IsFor p s x.branch (turn p parts start x) → Falls p parts n x start s (turn p parts start x)
unfolding turn
turn_falls p parts n x start s sound ready is =
    let b = x.branch in
    let least = node_least parts start x (free_of p parts x start sound ready) in
    let alone = λ (set : List ℕ). turn_alone parts x set (number_in_pool start set) in
    let advised = turn_advised p parts start x in
    on_some_both (parts.barren b) ends (on_some (parts.blocked b) ends (on_some (parts.only b) alone advised))
    (λ (o : Outcome). IsFor p s b o → Falls p parts n x start s o)
    (λ t e for. end_falls p parts n x start s t least)
    (λ not_barren. on_some_both (parts.blocked b) ends (on_some (parts.only b) alone advised) (λ (o : Outcome). IsFor p s b o → Falls p parts n x start s o)
    (λ t e for. end_falls p parts n x start s t least)
    (λ not_blocked. on_some_both (parts.only b) alone advised (λ (o : Outcome). IsFor p s b o → Falls p parts n x start s o)
    (λ set e for. alone_falls p parts n x start s set (number_in_pool start set) e refl least)
    (λ none for. advised_falls p parts n x start s sound least none (free_of p parts x start sound ready none) for))) is

-- what an outcome leaves knows what was known
taken_knows : (p : Problem) (parts : Parts) (n : Option ℕ) (x : Pending) (o : Outcome) (s : State) → IsKnowing s (taken p parts n x o s).state
unfolding taken
taken_knows p parts n x (ends t) s = same_knows s
taken_knows p parts n x (asks set order w more) s = with_set_knows parts set order s
taken_knows p parts n x (splits w fs advice) s =
    sets_know s (split_up p parts n advice fs (waited x w false) s).state (split_sets p parts n advice fs (waited x w false) s)

-- ---- a round

pub record IsLower (parts : Parts) (start : State) (left : ℕ) (places : List Place) (s : State) (t : Standing) : Type 0 where
  pub knows : IsKnowing s t.state
  pub most : turns_left parts t.state t.places ≤ turns_left parts start places
  pub less : 1 ≤ left → is_stopped s ≡ false → has_pending places ≡ true
      → turns_left parts t.state t.places + 1 ≤ turns_left parts start places

twice_knows : (s t u : State) → IsKnowing s t → IsKnowing t u → IsKnowing s u
twice_knows s t u first second = λ set e. second set (first set e)

first_left : (parts : Parts) (s : State) (x : Pending) (rest : List Place) → turns_left parts s (open_at x ∷ rest) ≡ node_turns parts s x + turns_left parts s rest
unfolding turns_left
first_left parts s x rest = refl

line_lower : (parts : Parts) (start : State) (left : ℕ) (l : TreeLine) (rest : List Place) (s : State) (after : Standing) → IsLower parts start left rest s after
    → IsLower parts start left (line l ∷ rest) s (record { state = after.state; places = line l ∷ after.places })
unfolding turns_left
line_lower parts start left l rest s after is = record { knows = is.knows; most = is.most; less = is.less }

here_lower : (parts : Parts) (start : State) (left : ℕ) (x : Pending) (rest : List Place) (s : State) (here after : Standing)
    → turns_left parts here.state here.places + 1 ≤ node_turns parts start x → IsKnowing s here.state → IsLower parts start left rest here.state after
    → IsLower parts start (suc left) (open_at x ∷ rest) s (record { state = after.state; places = here.places ++ after.places })
here_lower parts start left x rest s here after falls knows is =
    let both = left_both parts after.state here.places after.places in
    let lower = left_lower parts here.state after.state here.places is.knows in
    let whole = first_left parts start x rest in
    let most = is.most in
    record {
      knows = twice_knows s here.state after.state knows is.knows;
      most = omega (arith, both, lower, falls, most, whole);
      less = λ some going pending. omega (arith, both, lower, falls, most, whole);
    }

-- no node is evaluated
none_lower : (parts : Parts) (start : State) (left : ℕ) (places : List Place) (s : State) → IsKnowing start s
    → (1 ≤ left → is_stopped s ≡ false → has_pending places ≡ true → ⊥) → IsLower parts start left places s (record { state = s; places = places })
none_lower parts start left places s knows never = record {
  knows = same_knows s;
  most = left_lower parts start s places knows;
  less = λ some going pending. absurd (never some going pending);
}

pub lowered : (p : Problem) (parts : Parts) (n : Option ℕ) (start : State) (left : ℕ) (first : List Branching) (places : List Place) (last : List Branching) (s : State)
    → AreSound p parts → IsState p s → IsNext p start s → IsKnowing start s → Leads p start first places last
    → IsLower parts start left places s (turns_taken p parts n start left places s)
unfolding turns_taken
lowered p parts n start left first [] last s sound ok next knows leads =
    none_lower parts start left [] s knows (λ some going e. absurd (true≢false (sym e)))
lowered p parts n start left [] (i ∷ rest) last s sound ok next knows leads = absurd leads
lowered p parts n start left (b ∷ more) (line l ∷ rest) last s sound ok next knows leads =
    line_lower parts start left l rest s (turns_taken p parts n start left rest s)
    (lowered p parts n start left (filled b l more) rest last s sound ok next knows leads.2)
lowered p parts n start zero (b ∷ more) (open_at x ∷ rest) last s sound ok next knows leads =
    none_lower parts start zero (open_at x ∷ rest) s knows (λ some going e. absurd (omega (arith, some)))
lowered p parts n start (suc left) (b ∷ more) (open_at x ∷ rest) last s sound ok next knows leads =
    let here = taken p parts n x (turn p parts start x) s in
    let after = turns_taken p parts n start left rest here.state in
    cond_both (is_stopped s) (record { state = s; places = open_at x ∷ rest }) (record { state = after.state; places = here.places ++ after.places })
    (IsLower parts start (suc left) (open_at x ∷ rest) s)
    (λ e. none_lower parts start (suc left) (open_at x ∷ rest) s knows (λ some going f. absurd (true≢false (sym e ∙ going))))
    (λ going. let for = for_next p start s x.branch (turn p parts start x) next (turn_is p parts start x sound leads.1) in
    let is = taken_is p parts n x (turn p parts start x) s sound ok going for in
    let more_known = taken_knows p parts n x (turn p parts start x) s in
    here_lower parts start left x rest s here after (turn_falls p parts n x start s sound leads.1 for) more_known
    (lowered p parts n start left more rest last here.state sound is.next.state (next_twice p start s here.state next is.next)
    (twice_knows start s here.state knows more_known) leads.2))

-- ---- rounds

pub round_falls : (p : Problem) (parts : Parts) (n : Option ℕ) (b : Branching) (made : ℕ) (t : Standing) → AreSound p parts → IsStanding p n b made t
    → goes_on t ≡ true → turns_left parts (next_round p parts n t).state (next_round p parts n t).places + 1 ≤ turns_left parts t.state t.places
unfolding next_round
round_falls p parts n b made t sound is e =
    let lower = lowered p parts n t.state most_turns (b ∷ []) t.places [] t.state sound is.state (next_same p t.state is.state) (same_knows t.state) is.leads in
    lower.less (omega arith) (going_when t e) (and_parts (has_pending t.places) (not (is_stopped t.state)) e).0

pub rounds_end : (more : ℕ) (p : Problem) (parts : Parts) (n : Option ℕ) (b : Branching) (made : ℕ) (t : Standing) → AreSound p parts
    → IsStanding p n b made t → turns_left parts t.state t.places ≤ more → goes_on (rounds more p parts n t) ≡ false
unfolding rounds
rounds_end zero p parts n b made t sound is few =
    by_test (goes_on t) (λ e. absurd (omega (arith, few, round_falls p parts n b made t sound is e))) (λ e. e)
rounds_end (suc more) p parts n b made t sound is few =
    cond_both (goes_on t) (rounds more p parts n (next_round p parts n t)) t (λ (u : Standing). goes_on u ≡ false)
    (λ e. rounds_end more p parts n b made (next_round p parts n t) sound (round_stands p parts n b made t sound is (going_when t e))
    (omega (arith, few, round_falls p parts n b made t sound is e)))
    (λ e. e)
