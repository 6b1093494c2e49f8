-- What is added to a front, and the cases of a split in code.
use Rattle.std.proofs.Common.{◌≡◌, ℕ, ◌+◌, ◌≤◌, if◌then◌else◌, List, [], ◌∷◌, ◌++◌, length, map, All, refl, ap, sym, subst, ◌∙◌, Bool, true, false, nat_eq, Option, None, is_some, append_assoc, arith}
use Rattle.std.proofs.lemmas.List.{map-append}
use Rattle.std.proofs.lemmas.List.Elements.{All-push, All-weaker}
use Rattle.hub_spec.specs.Limits.{most_tree_lines}
use Rattle.hub_spec.specs.Problem.{Problem}
use Rattle.hub_spec.specs.Trees.{Branching, open_child, closed_child, Tree, TreeLine, branch_on, leaf_of, HasRoom, preorder}
use Rattle.cut_pool.specs.Entries.{Entry}
use Rattle.search_spec.specs.States.{denominator, State, Advice, Parts}
use Rattle.search_spec.specs.Steps.{may_split, two_more, Side, stays_open, stays_closed}
use Rattle.search_spec.specs.Choices.{rule_parts, nearest_half}
use Rattle.search_steps.specs.Advising.{parts_of}
use Rattle.search_steps.specs.Pools.{HasGrown}
use Rattle.search_steps.proofs.GivenPools.{grown_same, grown_twice, weights_stay}
use Rattle.search_steps.proofs.RuleChoices.{decided_alone, none_alone}
use Rattle.search_core.specs.declared.tasks.Task.{Task}
use Rattle.search_steps.specs.declared.progress.Progress.{Progress}
use Rattle.search_steps.specs.Progressing.{state_of, IsGoing, IsAt}
use Rattle.search_spec.specs.Places as places
use Rattle.search_spec.specs.Turns.{fresh, halved, split_up, with_set, taken}
use Rattle.search_spec.proofs.RoundCases.{halved_both, split_one}
use Rattle.node_rounds.specs.declared.outcomes.Pending.{Pending}
use Rattle.node_rounds.specs.declared.outcomes.Outcome.{Outcome}
use Rattle.node_rounds.specs.declared.outcomes.Outcome.TheVariants.{Ends, Ask, Split}
use Rattle.node_rounds.specs.declared.fronts.Place.{Place}
use Rattle.node_rounds.specs.declared.fronts.Place.TheVariants.{Line, Open}
use Rattle.node_rounds.specs.declared.fronts.RoundState.{RoundState}
use Rattle.node_rounds.specs.Outcomes.{IsPendingOf, IsOutcomeOf}
use Rattle.node_rounds.specs.Fronts.{place_of, places_of, IsPlaceOf, IsFront, IsTaken}

-- ---- more cuts

-- a pending node is one where the pool has grown
pub pending_kept : (p : Problem) (before after : List Entry) (x : Pending) → HasGrown before after → IsPendingOf p before x → IsPendingOf p after x
pending_kept p before after x grown is = record { branch = is.branch; weights = weights_stay before after x.weights.items grown is.weights }

-- so is the outcome of a node
pub outcome_kept : (p : Problem) (before after : List Entry) (x : Pending) (o : Outcome) → HasGrown before after → IsOutcomeOf p before x o
    → IsOutcomeOf p after x o
outcome_kept p before after x (Ends l) grown is = is
outcome_kept p before after x (Ask set order weights waited sums) grown is =
    (is.0, is.1, weights_stay before after weights.items grown is.2, is.3, is.4)
outcome_kept p before after x (Split weights fixings advice) grown is = (weights_stay before after weights.items grown is.0, is.1)

place_kept : (p : Problem) (before after : List Entry) (x : Place) → HasGrown before after → IsPlaceOf p before x → IsPlaceOf p after x
place_kept p before after (Line l) grown is = tt
place_kept p before after (Open x) grown is = pending_kept p before after x grown is

-- the nodes of a front are nodes where the pool has grown
pub nodes_kept : (p : Problem) (before after : List Entry) (xs : List Place) → HasGrown before after → All (IsPlaceOf p before) xs
    → All (IsPlaceOf p after) xs
nodes_kept p before after xs grown all = All-weaker (IsPlaceOf p before) (IsPlaceOf p after) (λ x is. place_kept p before after x grown is) xs all

-- ---- one place more

-- the search goes on to this state with no other line, and a place was pushed
pub pushed_at : (t : Task) (before after : RoundState) (s : State) (x : Place) → IsFront t before → IsAt t before.progress after.progress s
    → after.places.items ≡ before.places.items ++ x ∷ [] → IsPlaceOf t.instance.now after.progress.pool.entries x
    → IsTaken t before after (record { state = s; places = place_of x ∷ [] })
pushed_at t before after s x front at pushed is =
    let p = t.instance.now in
    let entries = after.progress.pool.entries in
    record {
      state = at.state;
      places = ap places_of pushed ∙ map-append place_of before.places.items (x ∷ []);
      lines = at.lines;
      kept = at.kept;
      front = record {
        going = at.going;
        nodes = subst (All (IsPlaceOf p entries)) (sym pushed) (All-push (IsPlaceOf p entries) before.places.items x
            (nodes_kept p before.progress.pool.entries entries before.places.items at.kept front.nodes) is);
      };
    }

-- a step that changed nothing
pub at_same : (t : Task) (s : Progress) → IsGoing t s → IsAt t s s (state_of t.instance.now s)
at_same t s going = record { state = refl; lines = refl; going = going; kept = grown_same s.pool.entries }

-- two nodes more
pub at_two_more : (t : Task) (before after : Progress) → IsGoing t before → after ≡ (record before { made = before.made + 2 })
    → after.made ≤ most_tree_lines → IsAt t before after (two_more (state_of t.instance.now before))
unfolding two_more
at_two_more t before after going is few =
    let s = state_of t.instance.now before in
    let made : after.made ≡ before.made + 2 = ap (λ (x : Progress). x.made) is in
    subst (λ (x : Progress). IsAt t before x (record s { made = s.made + 2 })) (sym is) (record {
      state = refl;
      lines = refl;
      going = record {
        problem = going.problem;
        pool = going.pool;
        few_cuts = going.few_cuts;
        few_lines = going.few_lines;
        hubs = going.hubs;
        cost = going.cost;
        made = omega (arith, made, few);
      };
      kept = grown_same before.pool.entries;
    })

-- one step after another
pub taken_then : (t : Task) (a b c : RoundState) (x y : places.Standing) → IsTaken t a b x → IsTaken t b c y
    → IsTaken t a c (record { state = y.state; places = x.places ++ y.places })
taken_then t a b c x y first second = record {
  state = second.state;
  places = second.places ∙ ap (λ (ps : List places.Place). ps ++ y.places) first.places ∙ append_assoc (places_of a.places.items) x.places y.places;
  lines = second.lines ∙ first.lines;
  kept = grown_twice a.progress.pool.entries b.progress.pool.entries c.progress.pool.entries first.kept second.kept;
  front = second.front;
}

-- what was taken is this
pub taken_as : (t : Task) (a b : RoundState) (x y : places.Standing) → x ≡ y → IsTaken t a b x → IsTaken t a b y
taken_as t a b x y is taken = subst (IsTaken t a b) is taken

-- a step that adds places, after one that adds none
pub taken_after : (t : Task) (a b c : RoundState) (s : State) (x : places.Standing) → IsAt t a.progress b.progress s → b.places ≡ a.places
    → IsTaken t b c x → IsTaken t a c x
taken_after t a b c s x at same taken = record {
  state = taken.state;
  places = taken.places ∙ ap (λ v. places_of v.items ++ x.places) same;
  lines = taken.lines ∙ at.lines;
  kept = grown_twice a.progress.pool.entries b.progress.pool.entries c.progress.pool.entries at.kept taken.kept;
  front = taken.front;
}

-- ---- a stop

-- there is room for hubs where any number will do
pub any_room : (p : Problem) (b : Branching) → p.wanted ≡ None → HasRoom p.wanted b
any_room p b any = subst (λ (o : Option ℕ). HasRoom o b) (sym any) tt

-- the places of a tree of one line
pub one_line : (t : Tree) (l : TreeLine) (s : State) → preorder t ≡ l ∷ []
    → ◌≡◌ {A = places.Standing} (record { state = s; places = places.line l ∷ [] }) (record { state = s; places = places.lines_of t })
one_line t l s is = λ i. record { state = s; places = map places.line (sym is i) }

-- ---- a branch with two children

nearest_is : (p : Problem) (a : Advice) (b : Branching) → nearest_half a b ≡ (parts_of p).nearest a b
unfolding rule_parts
nearest_is p a b = refl

pub halved_as : (p : Problem) (n : Option ℕ) (a : Advice) (x : places.Pending) (s : State) (w : List (ℕ × ℕ)) (k : ℕ) (opened closed : Branching)
    → may_split n s ≡ true → k ≡ nearest_half a x.branch → w ≡ x.weights → opened ≡ open_child x.branch k → closed ≡ closed_child x.branch k
    → record {
      state = two_more s;
      places = places.line (branch_on k) ∷ places.open_at (fresh opened w) ∷ places.open_at (fresh closed x.weights) ∷ [];
    } ≡ halved p (parts_of p) n a x s
halved_as p n a x s w k opened closed room nearest same down away =
    let near : k ≡ (parts_of p).nearest a x.branch = nearest ∙ nearest_is p a x.branch in
    let one = down ∙ ap (open_child x.branch) near in
    let two = away ∙ ap (closed_child x.branch) near in
    (λ i. record {
      state = two_more s;
      places = places.line (branch_on (near i)) ∷ places.open_at (fresh (one i) (same i)) ∷ places.open_at (fresh (two i) x.weights) ∷ [];
    }) ∙ halved_both p (parts_of p) n a x s room

-- ---- once the fixings are made

-- just one set is left where no node is free
pub only_one : (p : Problem) (b : Branching) → p.wanted ≡ None → nat_eq (length b.free) 0 ≡ true → is_some ((parts_of p).only b) ≡ true
only_one p b any none = ap (λ (o : Option (List ℕ)). is_some o) (sym (decided_alone p b any none))

-- and more where one is
pub only_more : (p : Problem) (b : Branching) → p.wanted ≡ None → nat_eq (length b.free) 0 ≡ false → is_some ((parts_of p).only b) ≡ false
only_more p b any some = ap (λ (o : Option (List ℕ)). is_some o) (sym (none_alone p b any some))

-- what the code's test tells
pub told_empty : (ks ms : List ℕ) (test value : Bool) → ms ≡ ks → test ≡ nat_eq (length ms) 0 → test ≡ value → nat_eq (length ks) 0 ≡ value
told_empty ks ms test value same is known = ap (λ (xs : List ℕ). nat_eq (length xs) 0) (sym same) ∙ sym is ∙ known

-- ---- fixings

-- the node with another branch
abbrev pub on_child : places.Pending → Branching → places.Pending
on_child x child = record { branch = child; weights = x.weights; waits = x.waits }

-- a fixing in which the node stays open, where two nodes more are allowed
pub split_open : (p : Problem) (parts : Parts) (n : Option ℕ) (a : Advice) (x : places.Pending) (s mid : State) (k : ℕ) (rest all : List (ℕ × Side))
    (child : Branching) (l : TreeLine)
    → is_some (parts.only x.branch) ≡ false → may_split n s ≡ true → mid ≡ two_more s → all ≡ (k, stays_open) ∷ rest
    → child ≡ open_child x.branch k → l ≡ leaf_of denominator x.weights
    → record {
      state = (split_up p parts n a rest (on_child x child) mid).state;
      places = places.line (branch_on k) ∷ ((split_up p parts n a rest (on_child x child) mid).places ++ places.line l ∷ []);
    } ≡ split_up p parts n a all x s
split_open p parts n a x s mid k rest all child l more room is fixings down leaf =
    (λ i. record {
      state = (split_up p parts n a rest (on_child x (down i)) (is i)).state;
      places = places.line (branch_on k) ∷ ((split_up p parts n a rest (on_child x (down i)) (is i)).places ++ places.line (leaf i) ∷ []);
    }) ∙ split_one p parts n a (k, stays_open) rest x s more room ∙ ap (λ (fs : List (ℕ × Side)). split_up p parts n a fs x s) (sym fixings)

-- and one in which it stays closed
pub split_closed : (p : Problem) (parts : Parts) (n : Option ℕ) (a : Advice) (x : places.Pending) (s mid : State) (k : ℕ) (rest all : List (ℕ × Side))
    (child : Branching) (l : TreeLine)
    → is_some (parts.only x.branch) ≡ false → may_split n s ≡ true → mid ≡ two_more s → all ≡ (k, stays_closed) ∷ rest
    → child ≡ closed_child x.branch k → l ≡ leaf_of denominator x.weights
    → record {
      state = (split_up p parts n a rest (on_child x child) mid).state;
      places = places.line (branch_on k) ∷ places.line l ∷ (split_up p parts n a rest (on_child x child) mid).places;
    } ≡ split_up p parts n a all x s
split_closed p parts n a x s mid k rest all child l more room is fixings away leaf =
    (λ i. record {
      state = (split_up p parts n a rest (on_child x (away i)) (is i)).state;
      places = places.line (branch_on k) ∷ places.line (leaf i) ∷ (split_up p parts n a rest (on_child x (away i)) (is i)).places;
    }) ∙ split_one p parts n a (k, stays_closed) rest x s more room ∙ ap (λ (fs : List (ℕ × Side)). split_up p parts n a fs x s) (sym fixings)

-- ---- outcomes

-- a line ends the node
pub taken_ends : (p : Problem) (parts : Parts) (n : Option ℕ) (x : places.Pending) (t : Tree) (l : TreeLine) (s : State)
    → places.lines_of t ≡ places.line l ∷ [] → record { state = s; places = places.line l ∷ [] } ≡ taken p parts n x (places.ends t) s
unfolding taken
taken_ends p parts n x t l s is = λ i. record { state = s; places = sym is i }

-- it asks for a set
pub taken_asks : (p : Problem) (parts : Parts) (n : Option ℕ) (x : places.Pending) (set order : List ℕ) (w : List (ℕ × ℕ)) (more : Bool) (s mid : State)
    (waits : ℕ) → mid ≡ with_set parts set order s → waits ≡ (if more then x.waits + 1 else x.waits)
    → record { state = mid; places = places.open_at (record { branch = x.branch; weights = w; waits = waits }) ∷ [] }
    ≡ taken p parts n x (places.asks set order w more) s
unfolding taken
taken_asks p parts n x set order w more s mid waits is count =
    λ i. record { state = is i; places = places.open_at (record { branch = x.branch; weights = w; waits = count i }) ∷ [] }

-- it is split
pub taken_splits : (p : Problem) (parts : Parts) (n : Option ℕ) (x : places.Pending) (w : List (ℕ × ℕ)) (fs : List (ℕ × Side)) (a : Advice) (s : State)
    → split_up p parts n a fs (record { branch = x.branch; weights = w; waits = x.waits }) s ≡ taken p parts n x (places.splits w fs a) s
unfolding taken
taken_splits p parts n x w fs a s = refl

-- the waits by the test
pub more_waits : (more : Bool) (waits now : ℕ) → more ≡ true → now ≡ waits + 1 → now ≡ (if more then waits + 1 else waits)
more_waits more waits now e is = rw e is

pub same_waits : (more : Bool) (waits now : ℕ) → more ≡ false → now ≡ waits → now ≡ (if more then waits + 1 else waits)
same_waits more waits now e is = rw e is
