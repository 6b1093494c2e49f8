-- The whole search by rounds: what comes of the root.
use Rattle.std.proofs.Common.{◌≡◌, ℕ, ◌+◌, ◌^◌, ◌≤◌, ◌<◌, Bool, true, false, not, ◌&&◌, List, [], ◌∷◌, length, Option, IsNone, refl, ap, sym, subst, ◌∙◌, true≢false, arith}
use Rattle.hub_spec.specs.Problem.{Problem, IsProblem}
use Rattle.hub_spec.specs.Trees.{root, TreeLine, preorder, line_count}
use Rattle.hub_spec.proofs.ChildLists.{root_branch}
use Rattle.hub_spec.proofs.Preorders.{length-preorder}
use Rattle.hub_spec.proofs.SumLemmas.{by_test}
use Rattle.search_spec.specs.States.{State, Parts, is_stopped, answer}
use Rattle.search_spec.specs.Laws.{AreSound, IsStart}
use Rattle.search_spec.specs.Findings.{IsProof, IsSpent, IsEnough, IsCounted}
use Rattle.search_spec.proofs.Invariants.{StaysWithin, within_cost, next_same}
use Rattle.search_spec.proofs.Leaves.{stays_within}
use Rattle.search_spec.proofs.FoundProofs.{tree_in_range}
use Rattle.search_spec.proofs.WholeSearches.{root_ready, start_going, from_root, lesser_none, too_few}
use Rattle.search_spec.specs.Places.{Standing, has_pending}
use Rattle.search_spec.specs.Turns.{fresh, goes_on, closed_up, at_root, Closed, grown_of, rounds, next_round}
use Rattle.search_spec.specs.Lasting.{turns_of, turns_left, stood, searched_by_rounds}
use Rattle.search_spec.specs.RoundTheorems.{StopsForNodes}
use Rattle.search_spec.proofs.Leading.{leads_room, tree_is}
use Rattle.search_spec.proofs.Rounding.{IsStanding, rounds_stand}
use Rattle.search_spec.proofs.Lessening.{one_left, any_turns}
use Rattle.search_spec.proofs.Ending.{round_falls, rounds_end}
use Rattle.search_spec.proofs.Closing.{HasClosed, closed_is}

-- ---- the root

pub root_stands : (p : Problem) (n : Option ℕ) (s : State) → IsProblem p → IsStart p s → IsStanding p n (root p) s.made (at_root p s)
root_stands p n s ok start = record {
  state = start.state;
  leads = (refl, root_ready p s ok start, refl);
  each = sym start.made;
  allowed = stays_within n s.made s.made refl;
  spent = λ h. absurd (true≢false (sym h ∙ start_going p s start));
  room = λ h. absurd (true≢false (sym h ∙ start_going p s start));
}

-- the node evaluations that are left at the root
pub root_turns : (p : Problem) (parts : Parts) (s : State) → turns_left parts s (at_root p s).places ≤ turns_of (length p.candidates)
root_turns p parts s = omega (arith, one_left parts s (fresh (root p) []), any_turns parts s (fresh (root p) []))

-- ---- what stands at the end

pub record IsLast (p : Problem) (n : Option ℕ) (s : State) (t : Standing) (c : Closed) : Type 0 where
  pub stands : IsStanding p n (root p) s.made t
  pub over : goes_on t ≡ false
  pub closed : HasClosed p (root p ∷ []) [] t.places t.state c

pub last_is : (p : Problem) (parts : Parts) (n : Option ℕ) (s : State) → IsProblem p → AreSound p parts → IsStart p s
    → IsLast p n s (stood p parts n s) (closed_up p parts (stood p parts n s).places (stood p parts n s).state)
unfolding stood
last_is p parts n s ok sound start =
    let first = root_stands p n s ok start in
    let t = stood p parts n s in
    let stands = rounds_stand (turns_of (length p.candidates)) p parts n (root p) s.made (at_root p s) sound first in
    record {
      stands = stands;
      over = rounds_end (turns_of (length p.candidates)) p parts n (root p) s.made (at_root p s) sound first (root_turns p parts s);
      closed = closed_is p parts t.state (root p ∷ []) t.places [] t.state sound stands.state (next_same p t.state stands.state) stands.leads;
    }

-- ---- what is found

found_proof : (p : Problem) (n : Option ℕ) (s : State) (t : Standing) (c : Closed) → IsProblem p → IsLast p n s t c → IsProof p (grown_of c)
found_proof p n s t c ok last =
    let tree = tree_is p c.state (root p) c.lines last.closed.leads in
    record {
      state = last.closed.next.state;
      within_cost = within_cost c.state;
      sound = tree.sound;
      lines_in_range = λ few. tree_in_range p c.state.cuts (answer c.state) (root p) (grown_of c).tree ok few (root_branch p ok) tree.sound tree.listed;
    }

found_counted : (p : Problem) (n : Option ℕ) (s : State) (t : Standing) (c : Closed) → IsStart p s → IsLast p n s t c → IsCounted p n (grown_of c)
found_counted p n s t c start last =
    let tree = tree_is p c.state (root p) c.lines last.closed.leads in
    let whole : length (preorder (grown_of c).tree) ≡ length c.lines = ap (λ (ls : List TreeLine). length ls) tree.whole in
    let lines : line_count (grown_of c).tree ≡ c.state.made = omega (arith, length-preorder (grown_of c).tree, whole, last.closed.count, last.closed.made, last.stands.each) in
    let room = leads_room p t.state (root p ∷ []) t.places [] last.stands.leads in
    record {
      lines = lines;
      allowed = from_root n s.made c.state.made start.made (subst (StaysWithin n s.made) (sym last.closed.made) last.stands.allowed);
      most = omega (arith, room, last.closed.made, last.stands.each);
    }

-- a search that is stopped in the end was stopped in its rounds
was_stopped : (t : Standing) (c : Closed) → goes_on t ≡ false → (has_pending t.places ≡ false → c.state ≡ t.state) → is_stopped c.state ≡ true
    → is_stopped t.state ≡ true
was_stopped t c over same stopped =
    by_test (is_stopped t.state) (λ e. e)
    (λ going. let none = none_pending (has_pending t.places) (is_stopped t.state) over going in
    absurd (true≢false (sym stopped ∙ ap (λ (s : State). is_stopped s) (same none) ∙ going)))
  where
    none_pending : (x y : Bool) → (x && not y) ≡ false → y ≡ false → x ≡ false
    none_pending true true over going = absurd (true≢false going)
    none_pending true false over going = over
    none_pending false y over going = refl

found_stopped : (p : Problem) (n : Option ℕ) (s : State) (t : Standing) (c : Closed) → IsLast p n s t c → StopsForNodes n (grown_of c)
found_stopped p n s t c last = record {
  spent = λ stopped. subst (IsSpent n) (sym last.closed.made) (last.stands.spent (was_stopped t c last.over last.closed.same stopped));
  whole = λ none. lesser_none c.state.cost c.state.stop none;
}

found_enough : (p : Problem) (n : Option ℕ) (s : State) (t : Standing) (c : Closed) → IsLast p n s t c → IsEnough (2 ^ (length p.candidates + 1)) n
    → IsNone (grown_of c).state.stop
found_enough p n s t c last enough =
    by_test (is_stopped c.state)
    (λ stopped. let was = was_stopped t c last.over last.closed.same stopped in
    too_few n t.state.made (2 ^ (length p.candidates + 1)) enough (last.stands.spent was) (last.stands.room was))
    (λ none. none)

-- ---- the search

pub search_proof : (p : Problem) (parts : Parts) (n : Option ℕ) (s : State) → IsProblem p → AreSound p parts → IsStart p s
    → IsProof p (searched_by_rounds p parts n s)
unfolding searched_by_rounds
search_proof p parts n s ok sound start =
    let t = stood p parts n s in found_proof p n s t (closed_up p parts t.places t.state) ok (last_is p parts n s ok sound start)

pub search_counted : (p : Problem) (parts : Parts) (n : Option ℕ) (s : State) → IsProblem p → AreSound p parts → IsStart p s
    → IsCounted p n (searched_by_rounds p parts n s)
unfolding searched_by_rounds
search_counted p parts n s ok sound start =
    let t = stood p parts n s in found_counted p n s t (closed_up p parts t.places t.state) start (last_is p parts n s ok sound start)

pub search_stopped : (p : Problem) (parts : Parts) (n : Option ℕ) (s : State) → IsProblem p → AreSound p parts → IsStart p s
    → StopsForNodes n (searched_by_rounds p parts n s)
unfolding searched_by_rounds
search_stopped p parts n s ok sound start =
    let t = stood p parts n s in found_stopped p n s t (closed_up p parts t.places t.state) (last_is p parts n s ok sound start)

pub enough_nodes : (p : Problem) (parts : Parts) (n : Option ℕ) (s : State) → IsProblem p → AreSound p parts → IsStart p s
    → IsEnough (2 ^ (length p.candidates + 1)) n → IsNone (searched_by_rounds p parts n s).state.stop
unfolding searched_by_rounds
enough_nodes p parts n s ok sound start enough =
    let t = stood p parts n s in found_enough p n s t (closed_up p parts t.places t.state) (last_is p parts n s ok sound start) enough

pub round_falls_from : (p : Problem) (parts : Parts) (n : Option ℕ) (s : State) (m : ℕ) → IsProblem p → AreSound p parts → IsStart p s
    → goes_on (rounds m p parts n (at_root p s)) ≡ true
    → turns_left parts (next_round p parts n (rounds m p parts n (at_root p s))).state (next_round p parts n (rounds m p parts n (at_root p s))).places
    < turns_left parts (rounds m p parts n (at_root p s)).state (rounds m p parts n (at_root p s)).places
round_falls_from p parts n s m ok sound start e =
    let stands = rounds_stand m p parts n (root p) s.made (at_root p s) sound (root_stands p n s ok start) in
    omega (arith, round_falls p parts n (root p) s.made (rounds m p parts n (at_root p s)) sound stands e)

pub rounds_over_from : (p : Problem) (parts : Parts) (n : Option ℕ) (s : State) → IsProblem p → AreSound p parts → IsStart p s
    → goes_on (stood p parts n s) ≡ false
rounds_over_from p parts n s ok sound start = (last_is p parts n s ok sound start).over
