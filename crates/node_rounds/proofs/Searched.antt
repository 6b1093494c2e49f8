-- All rounds of a search, by what the code has.
use Rattle.std.proofs.Common.{◌≡◌, ℕ, ◌<◌, ◌≤◌, Bool, true, false, not, ◌&&◌, List, [], ◌∷◌, ◌++◌, map, length, All, Option, refl, ap, sym, subst, ◌∙◌, arith}
use Rattle.hub_spec.specs.Problem.{Problem, IsProblem}
use Rattle.hub_spec.specs.Trees.{root, TreeLine, preorder}
use Rattle.hub_model.specs.Lines.{tree_line_of}
use Rattle.cut_pool.specs.Findings.{lines_of}
use Rattle.search_spec.specs.States.{State, is_stopped}
use Rattle.search_spec.specs.Laws.{IsStart}
use Rattle.search_steps.specs.Advising.{parts_of}
use Rattle.search_steps.proofs.RuleChoices.{parts_sound}
use Rattle.search_core.specs.declared.tasks.Task.{Task}
use Rattle.search_steps.specs.declared.progress.Progress.{Progress}
use Rattle.search_steps.specs.Progressing.{state_of, IsGoing}
use Rattle.search_spec.specs.Places as places
use Rattle.search_spec.specs.Places.{line, open_at, Standing, has_pending}
use Rattle.search_spec.specs.Turns.{Closed, fresh, next_round, goes_on, rounds, closed_up, grown_of, at_root}
use Rattle.search_spec.specs.Lasting.{turns_of, turns_left, stood, searched_by_rounds}
use Rattle.search_spec.proofs.Rounding.{IsStanding, round_stands, going_when}
use Rattle.search_spec.proofs.Ending.{round_falls}
use Rattle.search_spec.proofs.Leading.{Leads, tree_is}
use Rattle.search_spec.proofs.WholeRounds.{root_stands, root_turns, last_is}
use Rattle.search_spec.proofs.RoundCases.{rounds_step, rounds_over}
use Rattle.node_rounds.specs.declared.outcomes.Pending.{Pending}
use Rattle.node_rounds.specs.declared.fronts.RoundState.{RoundState}
use Rattle.node_rounds.specs.declared.left.TreeSlot.{TreeSlot}
use Rattle.node_rounds.specs.declared.left.TreeSlot.TheVariants.{Line, Node}
use Rattle.node_rounds.specs.declared.left.Left.{Left}
use Rattle.node_rounds.specs.Outcomes.{pending_of, IsPendingOf}
use Rattle.node_rounds.specs.Left.{AreMatched, placed, left_of, lines_first, standing_of, IsLeft}

-- ---- whether a node is pending

pending_lines : (ls : List TreeLine) (after : List places.Place) → has_pending (map line ls ++ after) ≡ has_pending after
pending_lines [] after = refl
pending_lines (l ∷ ls) after = pending_lines ls after

pending_placed : (ms : List TreeSlot) (xs : List Pending) (after : List places.Place) → AreMatched ms xs → 1 ≤ length xs → has_pending (placed ms xs after) ≡ true
pending_placed ms [] after matched some = absurd (omega (arith, some))
pending_placed [] (x ∷ xs) after matched some = absurd (omega (arith, matched))
pending_placed (Line l ∷ ms) (x ∷ xs) after matched some = pending_placed ms (x ∷ xs) (line (tree_line_of l) ∷ after) matched some
pending_placed (Node ∷ ms) (x ∷ xs) after matched some = pending_after ms xs (open_at (pending_of x) ∷ after) (omega (arith, matched)) refl
  where
    pending_after : (ms : List TreeSlot) (xs : List Pending) (after : List places.Place) → AreMatched ms xs → has_pending after ≡ true
        → has_pending (placed ms xs after) ≡ true
    pending_after [] xs after matched is = is
    pending_after (Line l ∷ ms) xs after matched is = pending_after ms xs (line (tree_line_of l) ∷ after) matched is
    pending_after (Node ∷ ms) [] after matched is = absurd (omega (arith, matched))
    pending_after (Node ∷ ms) (y ∷ ys) after matched is = pending_after ms ys (open_at (pending_of y) ∷ after) (omega (arith, matched)) refl

none_placed : (ms : List TreeSlot) (after : List places.Place) → AreMatched ms [] → has_pending after ≡ false → has_pending (placed ms [] after) ≡ false
none_placed [] after matched is = is
none_placed (Line l ∷ ms) after matched is = none_placed ms (line (tree_line_of l) ∷ after) matched is
none_placed (Node ∷ ms) after matched is = absurd (omega (arith, matched))

-- another round follows where a node is left and the search is not stopped
pub goes_on_when : (p : Problem) (s : Progress) (left : Left) → AreMatched left.marks.items left.nodes.items → 1 ≤ length left.nodes.items
    → is_stopped (state_of p s) ≡ false → goes_on (standing_of p s left) ≡ true
goes_on_when p s left matched some going =
    let pending : has_pending (lines_first s.lines.items (left_of left)) ≡ true =
    pending_lines (lines_of s.lines.items) (left_of left) ∙ pending_placed left.marks.items left.nodes.items [] matched some in
    rw (pending, going) refl

-- and none where no node is left, or it is stopped
pub over_when : (p : Problem) (s : Progress) (left : Left) → left.nodes.items ≡ [] → AreMatched left.marks.items left.nodes.items
    → goes_on (standing_of p s left) ≡ false
over_when p s left none matched =
    let pending : has_pending (lines_first s.lines.items (left_of left)) ≡ false =
    pending_lines (lines_of s.lines.items) (left_of left)
    ∙ ap (λ (xs : List Pending). has_pending (placed left.marks.items xs [])) none
    ∙ none_placed left.marks.items [] (matched ∙ ap length none) refl in
    rw pending refl

pub stopped_when : (p : Problem) (s : Progress) (left : Left) → is_stopped (state_of p s) ≡ true → goes_on (standing_of p s left) ≡ false
stopped_when p s left stopped = by (has_pending (lines_first s.lines.items (left_of left)))
  where
    by : (pending : Bool) → (pending && not (is_stopped (state_of p s))) ≡ false
    by true = rw stopped refl
    by false = refl

-- ---- the rounds

-- the rounds from here on end as those of the whole search do
pub record IsSearching (t : Task) (s₀ : Progress) (front : RoundState) (left : Left) : Type 0 where
  pub rest : rounds (turns_of (length t.instance.now.candidates)) t.instance.now (parts_of t.instance.now) t.nodes (standing_of t.instance.now front.progress left)
      ≡ stood t.instance.now (parts_of t.instance.now) t.nodes (state_of t.instance.now s₀)
  pub stands : IsStanding t.instance.now t.nodes (root t.instance.now) (state_of t.instance.now s₀).made (standing_of t.instance.now front.progress left)
  pub few : turns_left (parts_of t.instance.now) (state_of t.instance.now front.progress) (lines_first front.progress.lines.items (left_of left))
      ≤ turns_of (length t.instance.now.candidates)
  pub is_left : IsLeft t front.progress left
  pub no_place : front.places.items ≡ []

-- where the root alone is left, and no line is finished
pub standing_first : (p : Problem) (s : Progress) (left : Left) → lines_of s.lines.items ≡ [] → left_of left ≡ open_at (fresh (root p) []) ∷ []
    → standing_of p s left ≡ at_root p (state_of p s)
standing_first p s left no_line only =
    ap (λ (ps : List places.Place). (let u : Standing = record { state = state_of p s; places = ps } in u))
    (ap (λ (ls : List TreeLine). map line ls ++ left_of left) no_line ∙ only)

-- the root alone is left
pub searching_first : (t : Task) (front : RoundState) (left : Left) → IsStart t.instance.now (state_of t.instance.now front.progress) → IsGoing t front.progress
    → lines_of front.progress.lines.items ≡ [] → left_of left ≡ open_at (fresh (root t.instance.now) []) ∷ []
    → All (IsPendingOf t.instance.now front.progress.pool.entries) left.nodes.items → AreMatched left.marks.items left.nodes.items → front.places.items ≡ []
    → IsSearching t front.progress front left
unfolding stood
searching_first t front left start going no_line only nodes matched none =
    let p = t.instance.now in
    let s = state_of p front.progress in
    let at = standing_first p front.progress left no_line only in
    record {
      rest = ap (rounds (turns_of (length p.candidates)) p (parts_of p) t.nodes) at;
      stands = subst (IsStanding p t.nodes (root p) s.made) (sym at) (root_stands p t.nodes s going.problem start);
      few = subst (λ (u : Standing). turns_left (parts_of p) u.state u.places ≤ turns_of (length p.candidates)) (sym at) (root_turns p (parts_of p) s);
      is_left = record { going = going; nodes = nodes; matched = matched };
      no_place = none;
    }

-- a round more
pub searching_next : (t : Task) (s₀ : Progress) (front front' : RoundState) (left left' : Left) → IsSearching t s₀ front left
    → goes_on (standing_of t.instance.now front.progress left) ≡ true
    → standing_of t.instance.now front'.progress left' ≡ next_round t.instance.now (parts_of t.instance.now) t.nodes (standing_of t.instance.now front.progress left)
    → IsLeft t front'.progress left' → front'.places.items ≡ [] → IsSearching t s₀ front' left'
searching_next t s₀ front front' left left' is more next is_left none =
    let p = t.instance.now in
    let parts = parts_of p in
    let sound = parts_sound p is.is_left.going.problem in
    let made = (state_of p s₀).made in
    let now = standing_of p front.progress left in
    let falls = round_falls p parts t.nodes (root p) made now sound is.stands more in
    record {
      rest = ap (rounds (turns_of (length p.candidates)) p parts t.nodes) next
          ∙ rounds_step (turns_of (length p.candidates)) p parts t.nodes (root p) made now sound is.stands is.few more
          ∙ is.rest;
      stands = subst (IsStanding p t.nodes (root p) made) (sym next) (round_stands p parts t.nodes (root p) made now sound is.stands (going_when now more));
      few = subst (λ (u : Standing). turns_left parts u.state u.places ≤ turns_of (length p.candidates)) (sym next) (omega (arith, falls, is.few));
      is_left = is_left;
      no_place = none;
    }

-- the turns that are left are fewer
pub searching_fewer : (t : Task) (s₀ : Progress) (front front' : RoundState) (left left' : Left) → IsSearching t s₀ front left
    → goes_on (standing_of t.instance.now front.progress left) ≡ true
    → standing_of t.instance.now front'.progress left' ≡ next_round t.instance.now (parts_of t.instance.now) t.nodes (standing_of t.instance.now front.progress left)
    → turns_left (parts_of t.instance.now) (state_of t.instance.now front'.progress) (lines_first front'.progress.lines.items (left_of left'))
    < turns_left (parts_of t.instance.now) (state_of t.instance.now front.progress) (lines_first front.progress.lines.items (left_of left))
searching_fewer t s₀ front front' left left' is more next =
    let p = t.instance.now in
    let parts = parts_of p in
    let now = standing_of p front.progress left in
    subst (λ (u : Standing). turns_left parts u.state u.places < turns_left parts now.state now.places) (sym next)
    (omega (arith, round_falls p parts t.nodes (root p) (state_of p s₀).made now (parts_sound p is.is_left.going.problem) is.stands more))

-- ---- the end

-- what stands where no round follows is what stands at the end
pub searching_over : (t : Task) (s₀ : Progress) (front : RoundState) (left : Left) → IsSearching t s₀ front left
    → goes_on (standing_of t.instance.now front.progress left) ≡ false
    → standing_of t.instance.now front.progress left ≡ stood t.instance.now (parts_of t.instance.now) t.nodes (state_of t.instance.now s₀)
searching_over t s₀ front left is over =
    let p = t.instance.now in
    sym (rounds_over (turns_of (length p.candidates)) p (parts_of p) t.nodes (standing_of p front.progress left) over) ∙ is.rest

-- the state of what is found
pub ended_state : (p : Problem) (n : Option ℕ) (s : State) (t : Standing) → t ≡ stood p (parts_of p) n s
    → (closed_up p (parts_of p) t.places t.state).state ≡ (searched_by_rounds p (parts_of p) n s).state
unfolding searched_by_rounds
ended_state p n s t is = ap (λ (u : Standing). (closed_up p (parts_of p) u.places u.state).state) is

-- lines that lead from the root are those of the tree that they make
lines_whole : (p : Problem) (c : Closed) → Leads p c.state (root p ∷ []) (map line c.lines) [] → c.lines ≡ preorder (grown_of c).tree
lines_whole p c leads = sym (tree_is p c.state (root p) c.lines leads).whole

tree_of_end : (p : Problem) (n : Option ℕ) (s : State) → IsProblem p → IsStart p s
    → (closed_up p (parts_of p) (stood p (parts_of p) n s).places (stood p (parts_of p) n s).state).lines
    ≡ preorder (grown_of (closed_up p (parts_of p) (stood p (parts_of p) n s).places (stood p (parts_of p) n s).state)).tree
tree_of_end p n s ok start =
    lines_whole p (closed_up p (parts_of p) (stood p (parts_of p) n s).places (stood p (parts_of p) n s).state)
    (last_is p (parts_of p) n s ok (parts_sound p ok) start).closed.leads

-- its lines are those of its tree
pub ended_lines : (p : Problem) (n : Option ℕ) (s : State) (t : Standing) → IsProblem p → IsStart p s → t ≡ stood p (parts_of p) n s
    → (closed_up p (parts_of p) t.places t.state).lines ≡ preorder (searched_by_rounds p (parts_of p) n s).tree
unfolding searched_by_rounds
ended_lines p n s t ok start is =
    ap (λ (u : Standing). (closed_up p (parts_of p) u.places u.state).lines) is ∙ tree_of_end p n s ok start
