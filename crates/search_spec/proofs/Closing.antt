-- The nodes that are still pending at the end: each is ended by one line.
use Rattle.std.proofs.Common.{◌≡◌, ℕ, true, false, List, [], ◌∷◌, ◌++◌, length, map, Option, Some, None, refl, sym, subst, ◌∙◌, true≢false, arith}
use Rattle.std.proofs.lemmas.List.{map-append, length-append}
use Rattle.hub_spec.specs.Problem.{Problem}
use Rattle.hub_spec.specs.Trees.{Branching, Tree, preorder, line_count, IsSound}
use Rattle.hub_spec.proofs.Preorders.{length-preorder}
use Rattle.search_spec.specs.States.{State, Parts, Grown, is_stopped, answer, rounded_up}
use Rattle.search_spec.specs.Steps.{bound_at, stopped_leaf, unless_ended}
use Rattle.search_spec.specs.Laws.{IsState, AreListed, AreSound}
use Rattle.search_spec.proofs.Bounds.{bound_on}
use Rattle.search_spec.proofs.Invariants.{IsReady, IsNext, next_same, next_twice}
use Rattle.search_spec.proofs.Leaves.{stop_next, stop_sound}
use Rattle.search_spec.proofs.Rounds.{ready_next}
use Rattle.search_spec.specs.Walks.{filled}
use Rattle.search_spec.specs.Places.{Pending, Place, line, open_at, has_pending}
use Rattle.search_spec.specs.Turns.{Closed, closed_up}
use Rattle.search_spec.proofs.Leading.{Leads, line_next, leads_next, leads_both, tree_leads}

-- what ends a node: a tree of one line
record HasEnded (p : Problem) (b : Branching) (s : State) (g : Grown) : Type 0 where
  next : IsNext p s g.state
  sound : IsSound p g.state.cuts (answer g.state) b g.tree
  listed : AreListed g.tree
  one_line : line_count g.tree ≡ 1
  made : g.state.made ≡ s.made
  stopped : is_stopped s ≡ true → is_stopped g.state ≡ true

stop_ends : (p : Problem) (b : Branching) (w : List (ℕ × ℕ)) (s : State) → IsReady p b w s → HasEnded p b s (stopped_leaf p b w s)
unfolding bound_at stopped_leaf
stop_ends p b w s ready = record {
  next = stop_next p s (rounded_up (bound_on p s.cuts w b)) ready.state;
  sound = stop_sound p b w s ready;
  listed = ready.advised.listed;
  one_line = refl;
  made = refl;
  stopped = λ h. refl;
}

ended_by : (o : Option Tree) (s : State) (rest : Grown) (P : Grown → Type 0) → ((t : Tree) → o ≡ Some t → P (record { state = s; tree = t })) → P rest
    → P (unless_ended o s rest)
ended_by None s rest P some none = none
ended_by (Some t) s rest P some none = some t refl

node_ends : (p : Problem) (parts : Parts) (x : Pending) (s : State) → AreSound p parts → IsReady p x.branch x.weights s
    → HasEnded p x.branch s (unless_ended (parts.barren x.branch) s (stopped_leaf p x.branch x.weights s))
node_ends p parts x s sound ready =
    ended_by (parts.barren x.branch) s (stopped_leaf p x.branch x.weights s) (HasEnded p x.branch s)
    (λ t e. let end = sound.barren x.branch t ready.is_branch e in record {
      next = next_same p s ready.state;
      sound = end.sound s.cuts (answer s);
      listed = end.listed;
      one_line = end.one_line;
      made = refl;
      stopped = λ h. h;
    })
    (stop_ends p x.branch x.weights s ready)

-- what comes of all places
pub record HasClosed (p : Problem) (first last : List Branching) (places : List Place) (s : State) (c : Closed) : Type 0 where
  pub next : IsNext p s c.state
  pub leads : Leads p c.state first (map line c.lines) last
  pub count : length c.lines ≡ length places
  pub made : c.state.made ≡ s.made
  pub stopped : is_stopped s ≡ true → is_stopped c.state ≡ true
  pub same : has_pending places ≡ false → c.state ≡ s

open_closed : (p : Problem) (b : Branching) (more last : List Branching) (x : Pending) (rest : List Place) (s : State) (here : Grown) (after : Closed) → x.branch ≡ b
    → HasEnded p x.branch s here → HasClosed p more last rest here.state after
    → HasClosed p (b ∷ more) last (open_at x ∷ rest) s (record { state = after.state; lines = preorder here.tree ++ after.lines })
open_closed p b more last x rest s here after same ends is =
    let leads = leads_next p here.state after.state (x.branch ∷ more) (map line (preorder here.tree)) more is.next
    (tree_leads p here.state x.branch here.tree more ends.sound ends.listed) in
    let both = leads_both p after.state (x.branch ∷ more) (map line (preorder here.tree)) more (map line after.lines) last leads is.leads in
    let whole = subst (λ (xs : List Place). Leads p after.state (x.branch ∷ more) xs last) (sym (map-append line (preorder here.tree) after.lines)) both in
    record {
      next = next_twice p s here.state after.state ends.next is.next;
      leads = subst (λ (c : Branching). Leads p after.state (c ∷ more) (map line (preorder here.tree ++ after.lines)) last) same whole;
      count = omega (arith, is.count, length-append (preorder here.tree) after.lines, length-preorder here.tree, ends.one_line);
      made = is.made ∙ ends.made;
      stopped = λ h. is.stopped (ends.stopped h);
      same = λ e. absurd (true≢false e);
    }

pub closed_is : (p : Problem) (parts : Parts) (start : State) (first : List Branching) (places : List Place) (last : List Branching) (s : State) → AreSound p parts
    → IsState p s → IsNext p start s → Leads p start first places last → HasClosed p first last places s (closed_up p parts places s)
unfolding closed_up
closed_is p parts start first [] last s sound ok next leads = record {
  next = next_same p s ok;
  leads = leads;
  count = refl;
  made = refl;
  stopped = λ h. h;
  same = λ h. refl;
}
closed_is p parts start [] (i ∷ rest) last s sound ok next leads = absurd leads
closed_is p parts start (b ∷ more) (line l ∷ rest) last s sound ok next leads =
    let after = closed_up p parts rest s in
    let is = closed_is p parts start (filled b l more) rest last s sound ok next leads.2 in
    record {
      next = is.next;
      leads = (line_next p start after.state b l (next_twice p start s after.state next is.next) leads.0, leads.1, is.leads);
      count = omega (arith, is.count);
      made = is.made;
      stopped = is.stopped;
      same = is.same;
    }
closed_is p parts start (b ∷ more) (open_at x ∷ rest) last s sound ok next leads =
    let here = unless_ended (parts.barren x.branch) s (stopped_leaf p x.branch x.weights s) in
    let ends = node_ends p parts x s sound (ready_next p x.branch x.weights start s next leads.1) in
    open_closed p b more last x rest s here (closed_up p parts rest here.state) leads.0 ends
    (closed_is p parts start more rest last here.state sound ends.next.state (next_twice p start s here.state next ends.next) leads.2)
