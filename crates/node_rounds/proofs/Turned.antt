-- A round: what is taken of the outcomes of the first nodes that are left.
use Rattle.std.proofs.Common.{◌≡◌, ℕ, zero, suc, ◌+◌, ◌≤◌, min, false, List, [], ◌∷◌, ◌++◌, map, length, All, Option, refl, ap, ap₂, sym, subst, ◌∙◌, append_assoc, arith}
use Rattle.std.specs.List.{AllZip}
use Rattle.std.proofs.lemmas.List.{length_push, same_from_push}
use Rattle.std.proofs.lemmas.List.Elements.{All-weaker, All-nil}
use Rattle.hub_spec.specs.Problem.{Problem}
use Rattle.hub_spec.specs.Trees.{TreeLine}
use Rattle.hub_spec.proofs.SumLemmas.{by_test}
use Rattle.hub_model.specs.declared.tree_lines.TreeLine as model
use Rattle.hub_model.specs.Lines.{tree_line_of}
use Rattle.cut_pool.specs.Findings.{lines_of}
use Rattle.search_spec.specs.States.{State, Parts, is_stopped}
use Rattle.search_steps.specs.Advising.{parts_of}
use Rattle.search_steps.specs.Pools.{HasGrown}
use Rattle.search_steps.proofs.GivenPools.{grown_same, grown_twice}
use Rattle.search_core.specs.declared.tasks.Task.{Task}
use Rattle.search_steps.specs.declared.progress.Progress.{Progress}
use Rattle.search_steps.specs.Progressing.{state_of}
use Rattle.search_spec.specs.Places as places
use Rattle.search_spec.specs.Places.{line, open_at, Standing}
use Rattle.search_spec.specs.Turns.{taken, turns_taken, next_round, most_turns}
use Rattle.search_spec.proofs.RoundCases.{turned_lines, turned_stopped, turned_none, turned_first}
use Rattle.node_rounds.specs.declared.outcomes.Pending.{Pending}
use Rattle.node_rounds.specs.declared.outcomes.Outcome.{Outcome}
use Rattle.node_rounds.specs.declared.fronts.RoundState.{RoundState}
use Rattle.node_rounds.specs.declared.left.TreeSlot.{TreeSlot}
use Rattle.node_rounds.specs.declared.left.TreeSlot.TheVariants.{Line, Node}
use Rattle.node_rounds.specs.declared.left.Left.{Left}
use Rattle.node_rounds.specs.Outcomes.{pending_of, IsPendingOf, outcome_of, IsTurnOf, IsOutcomeOf}
use Rattle.node_rounds.specs.Fronts.{places_of, IsPlaceOf, IsFront, IsTaken}
use Rattle.node_rounds.specs.Left.{AreMatched, marked, placed, left_of, lines_first, standing_of, IsLeft, AreTurns}
use Rattle.node_rounds.proofs.Added.{pending_kept}
use Rattle.node_rounds.proofs.Lefts.{line_unmatched, node_unmatched, left_line, left_node, others_are}

-- ---- pairs at the end of two lists

none_zip : {A B : Type 0} (R : A → B → Type 0) (vs : List B) (v : B) → AllZip R [] (vs ++ v ∷ []) → ⊥
none_zip R [] v h = h
none_zip R (u ∷ vs) v h = h

zip_none : {A B : Type 0} (R : A → B → Type 0) (vs : List A) (v : A) → AllZip R (vs ++ v ∷ []) [] → ⊥
zip_none R [] v h = h
zip_none R (u ∷ vs) v h = h

-- the last of two lists that go in pairs is a pair, and the others go in pairs
last_pair : {A B : Type 0} (R : A → B → Type 0) (xs : List A) (ys : List B) (x : A) (y : B) → AllZip R (xs ++ x ∷ []) (ys ++ y ∷ [])
    → R x y × AllZip R xs ys
last_pair R [] [] x y h = (h.0, tt)
last_pair R [] (b ∷ ys) x y h = absurd (none_zip R ys y h.1)
last_pair R (a ∷ xs) [] x y h = absurd (zip_none R xs x h.1)
last_pair R (a ∷ xs) (b ∷ ys) x y h = let later = last_pair R xs ys x y h.1 in (later.0, (h.0, later.1))

-- a list that pairs with one that has a last has a last
record HasLast {A : Type 0} (xs : List A) : Type 0 where
  last : A
  before : List A
  is : xs ≡ before ++ last ∷ []

has_last : {A : Type 0} (x : A) (xs : List A) → HasLast (x ∷ xs)
has_last x [] = record { last = x; before = []; is = refl }
has_last x (y ∷ xs) = let later = has_last y xs in record { last = later.last; before = x ∷ later.before; is = ap (λ (zs : List _). x ∷ zs) later.is }

paired_last : {A B : Type 0} (R : A → B → Type 0) (xs : List A) (ys : List B) (y : B) → AllZip R xs (ys ++ y ∷ []) → HasLast xs
paired_last R [] ys y h = absurd (none_zip R ys y h)
paired_last R (x ∷ xs) ys y h = has_last x xs

-- ---- by the definition

-- after these places and lines
abbrev joined : List model.TreeLine → List places.Place → Standing → Standing
joined lines front t = record { state = t.state; places = lines_first lines (front ++ t.places) }

-- where all that is left are lines, nothing is taken
only_lines : (p : Problem) (parts : Parts) (n : Option ℕ) (start : State) (count : ℕ) (ms : List TreeSlot) (after : List places.Place) (s : State) → marked ms ≡ 0
    → turns_taken p parts n start count after s ≡ record { state = s; places = after }
    → turns_taken p parts n start count (placed ms [] after) s ≡ record { state = s; places = placed ms [] after }
only_lines p parts n start count [] after s none same = same
only_lines p parts n start count (Line l ∷ ms) after s none same =
    only_lines p parts n start count ms (line (tree_line_of l) ∷ after) s none
    (turned_lines p parts n start count (tree_line_of l ∷ []) after s
    ∙ ap (λ (t : Standing). (let u : Standing = record { state = t.state; places = line (tree_line_of l) ∷ t.places } in u)) same)
only_lines p parts n start count (Node ∷ ms) after s none same = absurd (omega (arith, none))

none_left : (p : Problem) (parts : Parts) (n : Option ℕ) (start : State) (count : ℕ) (s : State)
    → turns_taken p parts n start count [] s ≡ record { state = s; places = [] }
unfolding turns_taken
none_left p parts n start count s = refl

-- nor where no turn is left, or no node
nothing_taken : (p : Problem) (parts : Parts) (n : Option ℕ) (start : State) (count : ℕ) (left : Left) (s : State) → AreMatched left.marks.items left.nodes.items
    → min (length left.nodes.items) count ≡ 0 → turns_taken p parts n start count (left_of left) s ≡ record { state = s; places = left_of left }
nothing_taken p parts n start zero left s matched few = turned_none p parts n start (left_of left) s
nothing_taken p parts n start (suc count) left s matched few = by left.nodes.items refl
  where
    by : (xs : List Pending) → left.nodes.items ≡ xs → turns_taken p parts n start (suc count) (left_of left) s ≡ record { state = s; places = left_of left }
    by [] none =
        ap (λ (ns : List Pending). turns_taken p parts n start (suc count) (placed left.marks.items ns []) s) none
        ∙ only_lines p parts n start (suc count) left.marks.items [] s (matched ∙ ap length none) (none_left p parts n start (suc count) s)
        ∙ ap (λ (ns : List Pending). (let u : Standing = record { state = s; places = placed left.marks.items ns [] } in u)) (sym none)
    by (x ∷ xs) some = absurd (omega (arith, few, ap length some))

-- ---- by the code

-- what was taken so far, with the turns that are left by the definition
pub record IsTurning (t : Task) (s₀ : Progress) (left₀ : Left) (front : RoundState) (left : Left) (os : List Outcome) : Type 0 where
  pub count : ℕ
  pub round : joined front.progress.lines.items (places_of front.places.items)
      (turns_taken t.instance.now (parts_of t.instance.now) t.nodes (state_of t.instance.now s₀) count (left_of left) (state_of t.instance.now front.progress))
      ≡ next_round t.instance.now (parts_of t.instance.now) t.nodes (standing_of t.instance.now s₀ left₀)
  pub few : length os ≡ min (length left.nodes.items) count
  pub is_left : IsLeft t front.progress left
  pub is_front : IsFront t front
  pub turns : AreTurns t.instance.now s₀ left.nodes.items os
  pub kept : HasGrown s₀.pool.entries front.progress.pool.entries

pub turning_first : (t : Task) (front : RoundState) (left : Left) (os : List Outcome) → IsLeft t front.progress left → front.places.items ≡ []
    → AreTurns t.instance.now front.progress left.nodes.items os → length os ≡ min (length left.nodes.items) most_turns
    → IsTurning t front.progress left front left os
unfolding next_round
turning_first t front left os is none turns few =
    let p = t.instance.now in
    let s = state_of p front.progress in
    record {
      count = most_turns;
      round = ap (λ (ps : List places.Place). joined front.progress.lines.items ps (turns_taken p (parts_of p) t.nodes s most_turns (left_of left) s)) (ap places_of none)
          ∙ sym (turned_lines p (parts_of p) t.nodes s most_turns (lines_of front.progress.lines.items) (left_of left) s);
      few = few;
      is_left = is;
      is_front = record {
        going = is.going;
        nodes = subst (All (IsPlaceOf p front.progress.pool.entries)) (sym none) (All-nil (IsPlaceOf p front.progress.pool.entries));
      };
      turns = turns;
      kept = grown_same front.progress.pool.entries;
    }

-- places that were added to the front, before those of a standing
added_first : (lines more : List model.TreeLine) (front front' : List places.Place) (x : List places.Place) (t : Standing) → lines_of more ≡ lines_of lines
    → front' ≡ front ++ x → joined more front' t ≡ joined lines front (record { state = t.state; places = x ++ t.places })
added_first lines more front front' x t same is =
    ap₂ (λ (ls : List TreeLine) (ps : List places.Place). (let u : Standing = record { state = t.state; places = map line ls ++ (ps ++ t.places) } in u)) same is
    ∙ ap (λ (ps : List places.Place). (let u : Standing = record { state = t.state; places = lines_first lines ps } in u)) (append_assoc front x t.places)

-- the next place is a line
pub turning_line : (t : Task) (s₀ : Progress) (left₀ : Left) (front front' : RoundState) (left left' : Left) (os : List Outcome) (l : model.TreeLine)
    → IsTurning t s₀ left₀ front left os → left.marks.items ≡ left'.marks.items ++ Line l ∷ [] → left'.nodes ≡ left.nodes
    → IsTaken t front front' (record { state = state_of t.instance.now front.progress; places = line (tree_line_of l) ∷ [] })
    → IsTurning t s₀ left₀ front' left' os
turning_line t s₀ left₀ front front' left left' os l is marks nodes taken =
    let p = t.instance.now in
    let start = state_of p s₀ in
    let s = state_of p front.progress in
    let xs = left'.nodes.items in
    let same = ap (λ (v : _). v.items) nodes in
    let was : AreMatched left.marks.items xs = subst (AreMatched left.marks.items) (sym same) is.is_left.matched in
    let matched = line_unmatched left'.marks.items left.marks.items xs l marks was in
    let before = left_line left'.marks.items left.marks.items xs l marks matched in
    let rest = turns_taken p (parts_of p) t.nodes start is.count (left_of left') s in
    record {
      count = is.count;
      round = ap (λ (x : State). joined front'.progress.lines.items (places_of front'.places.items) (turns_taken p (parts_of p) t.nodes start is.count (left_of left') x)) taken.state
          ∙ added_first front.progress.lines.items front'.progress.lines.items (places_of front.places.items) (places_of front'.places.items) (line (tree_line_of l) ∷ []) rest taken.lines taken.places
          ∙ sym (ap (joined front.progress.lines.items (places_of front.places.items))
          (ap (λ (ns : List Pending). turns_taken p (parts_of p) t.nodes start is.count (placed left.marks.items ns []) s) (sym same)
          ∙ ap (λ (ps : List places.Place). turns_taken p (parts_of p) t.nodes start is.count ps s) before
          ∙ turned_lines p (parts_of p) t.nodes start is.count (tree_line_of l ∷ []) (left_of left') s))
          ∙ is.round;
      few = is.few ∙ ap (λ (ns : List Pending). min (length ns) is.count) (sym same);
      is_left = record {
        going = taken.front.going;
        nodes = All-weaker (IsPendingOf p front.progress.pool.entries) (IsPendingOf p front'.progress.pool.entries)
            (λ y h. pending_kept p front.progress.pool.entries front'.progress.pool.entries y taken.kept h) xs
            (subst (All (IsPendingOf p front.progress.pool.entries)) (sym same) is.is_left.nodes);
        matched = matched;
      };
      is_front = taken.front;
      turns = subst (λ (ns : List Pending). AreTurns p s₀ ns os) (sym same) is.turns;
      kept = grown_twice s₀.pool.entries front.progress.pool.entries front'.progress.pool.entries is.kept taken.kept;
    }

-- a node has its turn
record HasTurn (count : ℕ) : Type 0 where
  others : ℕ
  is : count ≡ suc others

one_turn : (count : ℕ) → 1 ≤ count → HasTurn count
one_turn zero some = absurd (omega (arith, some))
one_turn (suc others) some = record { others = others; is = refl }

-- the last of the nodes, with its outcome, is turned
pub last_turn : (p : Problem) (s : Progress) (nodes rest : List Pending) (x : Pending) (os later : List Outcome) (o : Outcome) → AreTurns p s nodes os
    → nodes ≡ rest ++ x ∷ [] → os ≡ later ++ o ∷ []
    → IsTurnOf p s.pool.entries s.cost x o × IsOutcomeOf p s.pool.entries x o × AreTurns p s rest later
last_turn p s nodes rest x os later o are ends is =
    let turn = λ (y : Pending) (z : Outcome). IsTurnOf p s.pool.entries s.cost y z in
    let sound = λ (y : Pending) (z : Outcome). IsOutcomeOf p s.pool.entries y z in
    let zip = subst (AllZip turn are.turned) is are.turns in
    let zap = subst (AllZip sound are.turned) is are.sound in
    let last = paired_last turn are.turned later o zip in
    let same : are.others ++ (last.before ++ last.last ∷ []) ≡ rest ++ x ∷ [] = sym (ap (λ (ys : List Pending). are.others ++ ys) last.is) ∙ sym are.all ∙ ends in
    let split = same_from_push (are.others ++ last.before) rest last.last x (append_assoc are.others last.before (last.last ∷ []) ∙ same) in
    let turned = last_pair turn last.before later last.last o (subst (λ (ys : List Pending). AllZip turn ys (later ++ o ∷ [])) last.is zip) in
    let sounds = last_pair sound last.before later last.last o (subst (λ (ys : List Pending). AllZip sound ys (later ++ o ∷ [])) last.is zap) in (
      subst (λ (y : Pending). turn y o) split.1 turned.0,
      subst (λ (y : Pending). sound y o) split.1 sounds.0,
      record { others = are.others; turned = last.before; all = sym split.0; turns = turned.1; sound = sounds.1 },
    )

-- the next place is a node, whose outcome is taken
pub turning_node : (t : Task) (s₀ : Progress) (left₀ : Left) (front front' : RoundState) (left left' : Left) (os later : List Outcome) (x : Pending) (o : Outcome)
    → IsTurning t s₀ left₀ front left os → is_stopped (state_of t.instance.now front.progress) ≡ false
    → left.marks.items ≡ left'.marks.items ++ Node ∷ [] → left.nodes.items ≡ left'.nodes.items ++ x ∷ [] → os ≡ later ++ o ∷ []
    → IsTaken t front front' (taken t.instance.now (parts_of t.instance.now) t.nodes (pending_of x) (outcome_of o) (state_of t.instance.now front.progress))
    → IsTurning t s₀ left₀ front' left' later
turning_node t s₀ left₀ front front' left left' os later x o is going marks nodes outs done =
    let p = t.instance.now in
    let parts = parts_of p in
    let start = state_of p s₀ in
    let s = state_of p front.progress in
    let xs = left'.nodes.items in
    let matched = node_unmatched left'.marks.items left.marks.items xs left.nodes.items x marks nodes is.is_left.matched in
    let before = left_node left'.marks.items left.marks.items xs left.nodes.items x marks nodes matched in
    let longer : length os ≡ length later + 1 = ap length outs ∙ length_push later o in
    let more : length left.nodes.items ≡ length xs + 1 = ap length nodes ∙ length_push xs x in
    let turn_left = one_turn is.count (omega (arith, is.few, longer)) in
    let last = last_turn p s₀ left.nodes.items xs x os later o is.turns nodes outs in
    let here = taken p parts t.nodes (pending_of x) (outcome_of o) s in
    let rest = turns_taken p parts t.nodes start turn_left.others (left_of left') here.state in
    let turned = last.0 s₀.hubs s₀.made s₀.stop in
    let first : record { state = rest.state; places = here.places ++ rest.places } ≡ turns_taken p parts t.nodes start is.count (left_of left) s =
    ap (λ (z : places.Outcome). (let h = taken p parts t.nodes (pending_of x) z s in
    let r = turns_taken p parts t.nodes start turn_left.others (left_of left') h.state in
    let u : Standing = record { state = r.state; places = h.places ++ r.places } in u)) turned
    ∙ turned_first p parts t.nodes start turn_left.others (pending_of x) (left_of left') s going
    ∙ ap (λ (c : ℕ). turns_taken p parts t.nodes start c (open_at (pending_of x) ∷ left_of left') s) (sym turn_left.is)
    ∙ ap (λ (ps : List places.Place). turns_taken p parts t.nodes start is.count ps s) (sym before) in
    record {
      count = turn_left.others;
      round = ap (λ (z : State). joined front'.progress.lines.items (places_of front'.places.items) (turns_taken p parts t.nodes start turn_left.others (left_of left') z)) done.state
          ∙ added_first front.progress.lines.items front'.progress.lines.items (places_of front.places.items) (places_of front'.places.items) here.places rest done.lines done.places
          ∙ ap (joined front.progress.lines.items (places_of front.places.items)) first
          ∙ is.round;
      few = omega (arith, is.few, longer, more, turn_left.is);
      is_left = record {
        going = done.front.going;
        nodes = All-weaker (IsPendingOf p front.progress.pool.entries) (IsPendingOf p front'.progress.pool.entries)
            (λ y h. pending_kept p front.progress.pool.entries front'.progress.pool.entries y done.kept h) xs
            (others_are (IsPendingOf p front.progress.pool.entries) xs left.nodes.items x nodes is.is_left.nodes);
        matched = matched;
      };
      is_front = done.front;
      turns = last.2;
      kept = grown_twice s₀.pool.entries front.progress.pool.entries front'.progress.pool.entries is.kept done.kept;
    }

-- no outcome is left, or the search is stopped
pub turning_over : (t : Task) (s₀ : Progress) (left₀ : Left) (front : RoundState) (left : Left) (os : List Outcome) → IsTurning t s₀ left₀ front left os
    → (is_stopped (state_of t.instance.now front.progress) ≡ false → os ≡ [])
    → record {
      state = state_of t.instance.now front.progress;
      places = lines_first front.progress.lines.items (places_of front.places.items ++ left_of left);
    } ≡ next_round t.instance.now (parts_of t.instance.now) t.nodes (standing_of t.instance.now s₀ left₀)
turning_over t s₀ left₀ front left os is over =
    let p = t.instance.now in
    let parts = parts_of p in
    let start = state_of p s₀ in
    let s = state_of p front.progress in
    let same : turns_taken p parts t.nodes start is.count (left_of left) s ≡ record { state = s; places = left_of left } =
    by_test (is_stopped s) (λ stopped. turned_stopped p parts t.nodes start is.count (left_of left) s stopped)
    (λ going. nothing_taken p parts t.nodes start is.count left s is.is_left.matched (omega (arith, is.few, ap length (over going)))) in
    sym (ap (joined front.progress.lines.items (places_of front.places.items)) same) ∙ is.round
