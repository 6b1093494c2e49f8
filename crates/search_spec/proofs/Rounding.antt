-- A round, and all rounds: the places lead on, each is a node that was made, and a stop comes only for want of nodes.
use Rattle.std.proofs.Common.{◌≡◌, ℕ, zero, suc, ◌+◌, ◌^◌, ◌≤◌, Bool, true, false, not, ◌&&◌, List, [], ◌∷◌, ◌++◌, length, Option, Some, None, refl, ap, sym, subst, ◌∙◌, true≢false, arith}
use Rattle.std.proofs.lemmas.List.{length-append}
use Rattle.std.proofs.lemmas.Bool.{cond_both}
use Rattle.hub_spec.specs.Problem.{Problem}
use Rattle.hub_spec.specs.Trees.{Branching, TreeLine}
use Rattle.hub_spec.proofs.SumLemmas.{by_test}
use Rattle.search_spec.specs.States.{State, Parts, is_stopped}
use Rattle.search_spec.specs.Laws.{IsState, AreSound}
use Rattle.search_spec.specs.Findings.{IsSpent}
use Rattle.search_spec.proofs.Invariants.{IsNext, StaysWithin, next_same, next_twice}
use Rattle.search_spec.proofs.Leaves.{stays_within}
use Rattle.search_spec.specs.Walks.{filled}
use Rattle.search_spec.specs.Places.{Pending, Place, line, open_at, Standing, has_pending}
use Rattle.search_spec.specs.Turns.{turn, taken, turns_taken, most_turns, next_round, goes_on, rounds}
use Rattle.search_spec.proofs.Leading.{Leads, room_of, line_room, line_next, leads_next, leads_both, leads_room}
use Rattle.search_spec.proofs.Turning.{turn_is}
use Rattle.search_spec.proofs.Taking.{HasTaken, for_next, taken_is}

-- what comes of places that lead from the first branches to the last, from a state on
pub record HasTurned (p : Problem) (n : Option ℕ) (first last : List Branching) (places : List Place) (s : State) (t : Standing) : Type 0 where
  pub next : IsNext p s t.state
  pub leads : Leads p t.state first t.places last
  pub made : length t.places + s.made ≡ t.state.made + length places
  pub allowed : StaysWithin n s.made t.state.made
  pub stays : is_stopped s ≡ true → t.state ≡ s
  pub spent : is_stopped s ≡ false → is_stopped t.state ≡ true → IsSpent n t.state.made
  pub room : is_stopped s ≡ false → is_stopped t.state ≡ true
      → length t.places + 2 + length first + room_of last ≤ room_of first + length last

within_twice : (n : Option ℕ) (before made after : ℕ) → StaysWithin n before made → StaysWithin n made after → StaysWithin n before after
within_twice None before made after one two = tt
within_twice (Some n) before made after one two = λ within. two (one within)

not_both : {G : Type 0} (s : State) → is_stopped s ≡ false → is_stopped s ≡ true → G
not_both s going stopped = absurd (true≢false (sym stopped ∙ going))

-- no node is evaluated
none_turned : (p : Problem) (n : Option ℕ) (first last : List Branching) (places : List Place) (start s : State) → IsState p s
    → IsNext p start s → Leads p start first places last → HasTurned p n first last places s (record { state = s; places = places })
none_turned p n first last places start s ok next leads = record {
  next = next_same p s ok;
  leads = leads_next p start s first places last next leads;
  made = omega arith;
  allowed = stays_within n s.made s.made refl;
  stays = λ h. refl;
  spent = not_both s;
  room = not_both s;
}

-- what comes after a line
line_turned : (p : Problem) (n : Option ℕ) (b : Branching) (l : TreeLine) (more last : List Branching) (rest : List Place) (start s : State) (after : Standing)
    → IsNext p start s → Leads p start (b ∷ more) (line l ∷ rest) last → HasTurned p n (filled b l more) last rest s after
    → HasTurned p n (b ∷ more) last (line l ∷ rest) s (record { state = after.state; places = line l ∷ after.places })
line_turned p n b l more last rest start s after next leads is = record {
  next = is.next;
  leads = (line_next p start after.state b l (next_twice p start s after.state next is.next) leads.0, leads.1, is.leads);
  made = omega (arith, is.made);
  allowed = is.allowed;
  stays = is.stays;
  spent = is.spent;
  room = λ going stopped. omega (arith, is.room going stopped, line_room p start b l more leads.0);
}

-- what comes after a node evaluation
here_turned : (p : Problem) (n : Option ℕ) (b : Branching) (more last : List Branching) (rest : List Place) (x : Pending) (s : State) (here after : Standing)
    → is_stopped s ≡ false → x.branch ≡ b → HasTaken p n x.branch s here → HasTurned p n more last rest here.state after
    → HasTurned p n (b ∷ more) last (open_at x ∷ rest) s (record { state = after.state; places = here.places ++ after.places })
here_turned p n b more last rest x s here after going same first is =
    let leads = leads_next p here.state after.state (x.branch ∷ more) here.places more is.next (first.leads more) in
    let both = leads_both p after.state (x.branch ∷ more) here.places more after.places last leads is.leads in
    let long = length-append here.places after.places in
    let here_room = leads_room p after.state (x.branch ∷ more) here.places more leads in
    let after_room = leads_room p after.state more after.places last is.leads in
    let power : 2 ^ (length x.branch.free + 1) ≡ 2 ^ (length b.free + 1) = ap (λ (c : Branching). 2 ^ (length c.free + 1)) same in
    let whole : length after.places + here.state.made ≡ after.state.made + length rest = is.made in
    record {
      next = next_twice p s here.state after.state first.next is.next;
      leads = subst (λ (c : Branching). Leads p after.state (c ∷ more) (here.places ++ after.places) last) same both;
      made = omega (arith, first.made, whole, long);
      allowed = within_twice n s.made here.state.made after.state.made first.allowed is.allowed;
      stays = not_both s going;
      spent = λ h stopped. by_test (is_stopped here.state)
          (λ e. subst (λ (t : State). IsSpent n t.made) (sym (is.stays e)) (first.spent e))
          (λ e. is.spent e stopped);
      room = λ h stopped. by_test (is_stopped here.state)
          (λ e. omega (arith, first.room e, after_room, long, power))
          (λ e. omega (arith, is.room e stopped, here_room, long, power));
    }

pub turned_is : (p : Problem) (parts : Parts) (n : Option ℕ) (start : State) (left : ℕ) (first : List Branching) (places : List Place) (last : List Branching)
    (s : State) → AreSound p parts → IsState p s → IsNext p start s → Leads p start first places last
    → HasTurned p n first last places s (turns_taken p parts n start left places s)
unfolding turns_taken
turned_is p parts n start left first [] last s sound ok next leads = none_turned p n first last [] start s ok next leads
turned_is p parts n start left [] (i ∷ rest) last s sound ok next leads = absurd leads
turned_is p parts n start left (b ∷ more) (line l ∷ rest) last s sound ok next leads =
    line_turned p n b l more last rest start s (turns_taken p parts n start left rest s) next leads
    (turned_is p parts n start left (filled b l more) rest last s sound ok next leads.2)
turned_is p parts n start zero (b ∷ more) (open_at x ∷ rest) last s sound ok next leads =
    none_turned p n (b ∷ more) last (open_at x ∷ rest) start s ok next leads
turned_is p parts n start (suc left) (b ∷ more) (open_at x ∷ rest) last s sound ok next leads =
    let here = taken p parts n x (turn p parts start x) s in
    let after = turns_taken p parts n start left rest here.state in
    cond_both (is_stopped s) (record { state = s; places = open_at x ∷ rest }) (record { state = after.state; places = here.places ++ after.places })
    (HasTurned p n (b ∷ more) last (open_at x ∷ rest) s)
    (λ e. none_turned p n (b ∷ more) last (open_at x ∷ rest) start s ok next leads)
    (λ going. let is = taken_is p parts n x (turn p parts start x) s sound ok going
    (for_next p start s x.branch (turn p parts start x) next (turn_is p parts start x sound leads.1)) in
    here_turned p n b more last rest x s here after going leads.0 is
    (turned_is p parts n start left more rest last here.state sound is.next.state (next_twice p start s here.state next is.next) leads.2))

-- ---- rounds

-- the places lead from a branch to the end, each is a node that was made, and a stop came only for want of nodes
pub record IsStanding (p : Problem) (n : Option ℕ) (b : Branching) (made : ℕ) (t : Standing) : Type 0 where
  pub state : IsState p t.state
  pub leads : Leads p t.state (b ∷ []) t.places []
  pub each : length t.places ≡ t.state.made
  pub allowed : StaysWithin n made t.state.made
  pub spent : is_stopped t.state ≡ true → IsSpent n t.state.made
  pub room : is_stopped t.state ≡ true → t.state.made + 3 ≤ 2 ^ (length b.free + 1)

pub round_stands : (p : Problem) (parts : Parts) (n : Option ℕ) (b : Branching) (made : ℕ) (t : Standing) → AreSound p parts → IsStanding p n b made t
    → is_stopped t.state ≡ false → IsStanding p n b made (next_round p parts n t)
unfolding next_round
round_stands p parts n b made t sound is going =
    let after = turns_taken p parts n t.state most_turns t.places t.state in
    let turned = turned_is p parts n t.state most_turns (b ∷ []) t.places [] t.state sound is.state (next_same p t.state is.state) is.leads in
    let each : length after.places ≡ after.state.made = omega (arith, turned.made, is.each) in
    record {
      state = turned.next.state;
      leads = turned.leads;
      each = each;
      allowed = within_twice n made t.state.made after.state.made is.allowed turned.allowed;
      spent = λ h. turned.spent going h;
      room = λ h. omega (arith, turned.room going h, each);
    }

pub going_when : (t : Standing) → goes_on t ≡ true → is_stopped t.state ≡ false
going_when t e = by_test (is_stopped t.state) (λ h. absurd (true≢false (sym e ∙ and_not (has_pending t.places) (is_stopped t.state) h))) (λ h. h)
  where
    and_not : (x y : Bool) → y ≡ true → (x && not y) ≡ false
    and_not true y h = ap not h
    and_not false y h = refl

pub rounds_stand : (more : ℕ) (p : Problem) (parts : Parts) (n : Option ℕ) (b : Branching) (made : ℕ) (t : Standing) → AreSound p parts
    → IsStanding p n b made t → IsStanding p n b made (rounds more p parts n t)
unfolding rounds
rounds_stand zero p parts n b made t sound is = is
rounds_stand (suc more) p parts n b made t sound is =
    cond_both (goes_on t) (rounds more p parts n (next_round p parts n t)) t (IsStanding p n b made)
    (λ e. rounds_stand more p parts n b made (next_round p parts n t) sound (round_stands p parts n b made t sound is (going_when t e)))
    (λ e. is)
