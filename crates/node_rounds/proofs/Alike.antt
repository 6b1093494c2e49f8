-- What two searchers have that have come as far: the same turns.
use Rattle.std.proofs.Common.{◌≡◌, ℕ, suc, ◌+◌, ◌-◌, ◌<◌, List, [], ◌∷◌, ◌++◌, length, map, drop, min, get_or, Option, refl, ap, ap₂, sym, subst, ◌∙◌, arith}
use Rattle.std.specs.List.{HoldsAt}
use Rattle.std.proofs.lemmas.List.{drop-map, get_or-map, length-map}
use Rattle.hub_spec.specs.Cuts.{Cut}
use Rattle.hub_spec.specs.Problem.{Problem}
use Rattle.hub_model.specs.declared.tree_lines.TreeLine as model
use Rattle.hub_model.specs.Lines.{tree_line_of}
use Rattle.hub_spec.specs.Trees.{TreeLine, Branching}
use Rattle.cut_pool.specs.Findings.{lines_of}
use Rattle.cut_pool.proofs.KeptCutLaws.{kept_part_is}
use Rattle.cut_pool.specs.Entries.{Entry, entry_part}
use Rattle.leaf_bound.specs.Bounds.{AreMultiples}
use Rattle.search_spec.specs.States.{State}
use Rattle.search_core.specs.declared.tasks.Task.{Task}
use Rattle.search_steps.specs.Advising.{parts_of}
use Rattle.search_steps.specs.Pools.{pool_cuts}
use Rattle.search_steps.specs.Weights.{AreNodeWeights, sides_as}
use Rattle.search_steps.specs.declared.progress.Progress.{Progress}
use Rattle.search_steps.specs.Progressing.{state_of}
use Rattle.search_steps.specs.FixingsLeft.{AreOnFree}
use Rattle.search_spec.specs.Places as places
use Rattle.search_spec.specs.Turns.{most_waits, most_turns, turn}
use Rattle.node_rounds.specs.declared.outcomes.Pending.{Pending}
use Rattle.node_rounds.specs.declared.outcomes.Outcome.{Outcome}
use Rattle.node_rounds.specs.declared.outcomes.Outcome.TheVariants.{Ends, Ask, Split}
use Rattle.node_rounds.specs.declared.left.Left.{Left}
use Rattle.node_rounds.specs.declared.left.TreeSlot.{TreeSlot}
use Rattle.node_rounds.specs.declared.left.TreeSlot.TheVariants.{Line, Node}
use Rattle.node_rounds.specs.Outcomes.{pending_of, IsTurnOf, IsOutcomeOf}
use Rattle.node_rounds.specs.Left.{AreMatched, placed, left_of, lines_first, standing_of, IsLeft, turned_of}
use Rattle.search_spec.specs.Turns.{next_round, at_root}
use Rattle.node_rounds.specs.declared.posts.Worked.{Worked}
use Rattle.node_rounds.specs.Searchers.{IsTurnBy, IsAsGood, first_state, after_rounds, IsTurnIn, IsWorked}

-- ---- the nodes of what is left

-- the pending nodes of places, in their order
abbrev opens : List places.Place → List places.Pending
opens [] = []
opens (places.line l ∷ rest) = opens rest
opens (places.open_at x ∷ rest) = x ∷ opens rest

-- nodes, the last first, before others
abbrev last_first : List Pending → List places.Pending → List places.Pending
last_first [] after = after
last_first (x ∷ xs) after = last_first xs (pending_of x ∷ after)

opens_placed : (ms : List TreeSlot) (xs : List Pending) (after : List places.Place) → AreMatched ms xs → opens (placed ms xs after) ≡ last_first xs (opens after)
opens_placed [] [] after same = refl
opens_placed [] (x ∷ xs) after same = absurd (omega (arith, same))
opens_placed (Line l ∷ ms) xs after same = opens_placed ms xs (places.line (tree_line_of l) ∷ after) same
opens_placed (Node ∷ ms) [] after same = absurd (omega (arith, same))
opens_placed (Node ∷ ms) (x ∷ xs) after same = opens_placed ms xs (places.open_at (pending_of x) ∷ after) (omega (arith, same))

opens_lines : (ls : List TreeLine) (after : List places.Place) → opens (map places.line ls ++ after) ≡ opens after
opens_lines [] after = refl
opens_lines (l ∷ ls) after = opens_lines ls after

opens_left : (lines : List model.TreeLine) (left : Left) → AreMatched left.marks.items left.nodes.items
    → opens (lines_first lines (left_of left)) ≡ last_first left.nodes.items []
opens_left lines left matched = opens_lines (lines_of lines) (left_of left) ∙ opens_placed left.marks.items left.nodes.items [] matched

-- ---- lists that are equal

length_last_first : (xs : List Pending) (after : List places.Pending) → length (last_first xs after) ≡ length xs + length after
length_last_first [] after = omega arith
length_last_first (x ∷ xs) after = omega (arith, length_last_first xs (pending_of x ∷ after))

abbrev first_or : {A : Type 0} → A → List A → A
first_or a [] = a
first_or a (x ∷ xs) = x

abbrev others : {A : Type 0} → List A → List A
others [] = []
others (x ∷ xs) = xs

record AreAlike (xs ys : List Pending) (after other : List places.Pending) : Type 0 where
  nodes : map pending_of xs ≡ map pending_of ys
  rest : after ≡ other

alike_by : (xs ys : List Pending) (after other : List places.Pending) → last_first xs after ≡ last_first ys other → length after ≡ length other
    → AreAlike xs ys after other
alike_by [] [] after other same long = record { nodes = refl; rest = same }
alike_by [] (y ∷ ys) after other same long = absurd (omega (arith, ap length same, length_last_first ys (pending_of y ∷ other), long))
alike_by (x ∷ xs) [] after other same long = absurd (omega (arith, ap length same, length_last_first xs (pending_of x ∷ after), long))
alike_by (x ∷ xs) (y ∷ ys) after other same long =
    let rest = alike_by xs ys (pending_of x ∷ after) (pending_of y ∷ other) same (omega (arith, long)) in
    record {
      nodes = ap₂ (λ (z : places.Pending) (zs : List places.Pending). z ∷ zs) (ap (first_or (pending_of x)) rest.rest) rest.nodes;
      rest = ap others rest.rest;
    }

-- the nodes of searches that stand alike are alike
nodes_alike : (p : Problem) (s s' : Progress) (left left' : Left) → AreMatched left.marks.items left.nodes.items → AreMatched left'.marks.items left'.nodes.items
    → standing_of p s left ≡ standing_of p s' left' → map pending_of left.nodes.items ≡ map pending_of left'.nodes.items
nodes_alike p s s' left left' matched matched' same =
    (alike_by left.nodes.items left'.nodes.items [] []
    (sym (opens_left s.lines.items left matched) ∙ ap (λ (t : places.Standing). opens t.places) same ∙ opens_left s'.lines.items left' matched') refl).nodes

turned_alike : (xs ys : List Pending) → map pending_of xs ≡ map pending_of ys → map pending_of (turned_of xs) ≡ map pending_of (turned_of ys)
turned_alike xs ys same =
    let long : length xs ≡ length ys = sym (length-map xs pending_of) ∙ ap length same ∙ length-map ys pending_of in
    sym (drop-map pending_of (length xs - min (length xs) most_turns) xs)
    ∙ ap₂ (λ (n : ℕ) (zs : List places.Pending). drop (n - min n most_turns) zs) long same
    ∙ drop-map pending_of (length ys - min (length ys) most_turns) ys

-- ---- the cuts

parts_by_cuts : (p : Problem) (entries : List Entry) → map entry_part entries ≡ map (λ (c : Cut). c.part) (pool_cuts p entries)
parts_by_cuts p [] = refl
parts_by_cuts p (e ∷ es) = ap₂ (λ (n : ℕ) (ns : List ℕ). n ∷ ns) (sym (kept_part_is p e.cut)) (parts_by_cuts p es)

parts_alike : (p : Problem) (es fs : List Entry) → pool_cuts p es ≡ pool_cuts p fs → map entry_part es ≡ map entry_part fs
parts_alike p es fs same = parts_by_cuts p es ∙ ap (map (λ (c : Cut). c.part)) same ∙ sym (parts_by_cuts p fs)

weights_alike : (p : Problem) (es fs : List Entry) (weights : List ℕ) → pool_cuts p es ≡ pool_cuts p fs → AreNodeWeights es weights → AreNodeWeights fs weights
weights_alike p es fs weights same is =
    let parts = parts_alike p es fs same in
    record {
      few = omega (arith, is.few, length-map es entry_part, ap length parts, length-map fs entry_part);
      each = is.each;
      multiples = subst (AreMultiples weights) parts is.multiples;
      most = is.most;
    }

-- ---- a turn

-- the state with another incumbent's hubs, of the same cost, with so many nodes made and this stop
abbrev with_other : List ℕ → ℕ → Option ℕ → State → State
with_other hubs made stop s = record { sets = s.sets; cuts = s.cuts; marks = s.marks; hubs = hubs; cost = s.cost; made = made; stop = stop }

turn_alike : (p : Problem) (s s' : Progress) (x y : Pending) (o : Outcome) → state_of p s ≡ state_of p s' → pending_of x ≡ pending_of y
    → IsTurnOf p s.pool.entries s.cost x o → IsTurnOf p s'.pool.entries s'.cost y o
turn_alike p s s' x y o same nodes is =
    λ hubs made stop. is hubs made stop
    ∙ ap₂ (λ (z : State) (n : places.Pending). turn p (parts_of p) (with_other hubs made stop z) n) same nodes

outcome_alike : (p : Problem) (es fs : List Entry) (x y : Pending) (o : Outcome) → pool_cuts p es ≡ pool_cuts p fs → pending_of x ≡ pending_of y
    → IsOutcomeOf p es x o → IsOutcomeOf p fs y o
outcome_alike p es fs x y (Ends l) cuts nodes is = is
outcome_alike p es fs x y (Ask set order weights waited sums) cuts nodes is = (
  is.0,
  is.1,
  weights_alike p es fs weights.items cuts is.2,
  (λ counts. subst (λ (n : ℕ). n < most_waits) (ap (λ (z : places.Pending). z.waits) nodes) (is.3 counts)),
  is.4,
)
outcome_alike p es fs x y (Split weights fixings advice) cuts nodes is = (
  weights_alike p es fs weights.items cuts is.0,
  subst (λ (b : Branching). AreOnFree b (sides_as fixings.items)) (ap (λ (z : places.Pending). z.branch) nodes) is.1,
)

-- what is a node's turn for one searcher is it for each that has come as far
pub turn_there : (t : Task) (s : Progress) (left : Left) (round place : ℕ) (o : Outcome) → IsLeft t s left
    → standing_of t.instance.now s left ≡ after_rounds t.instance.now t.nodes round → place < length (turned_of left.nodes.items)
    → HoldsAt (λ x. IsTurnBy t.instance.now s x o) (turned_of left.nodes.items) place → IsTurnIn t round place o
turn_there t s left round place o is stands inside here =
    λ s' left' is' stands'.
    let p = t.instance.now in
    let same : standing_of p s left ≡ standing_of p s' left' = stands ∙ sym stands' in
    let state : state_of p s ≡ state_of p s' = ap (λ (z : places.Standing). z.state) same in
    let cuts : pool_cuts p s.pool.entries ≡ pool_cuts p s'.pool.entries = ap (λ (z : State). z.cuts) state in
    let xs = turned_of left.nodes.items in
    let ys = turned_of left'.nodes.items in
    let nodes : map pending_of xs ≡ map pending_of ys =
    turned_alike left.nodes.items left'.nodes.items (nodes_alike p s s' left left' is.matched is'.matched same) in
    let long : length xs ≡ length ys = sym (length-map xs pending_of) ∙ ap length nodes ∙ length-map ys pending_of in
    λ d.
    let node : pending_of (get_or xs place d) ≡ pending_of (get_or ys place d) =
    sym (get_or-map pending_of xs place d (pending_of d) inside)
    ∙ ap (λ (zs : List places.Pending). get_or zs place (pending_of d)) nodes
    ∙ get_or-map pending_of ys place d (pending_of d) (omega (arith, inside, long)) in
    record {
      turn = turn_alike p s s' (get_or xs place d) (get_or ys place d) o state node (here d).turn;
      sound = outcome_alike p s.pool.entries s'.pool.entries (get_or xs place d) (get_or ys place d) o cuts node (here d).sound;
    }

-- so it is where the evaluation is to be sent
pub worked_there : (t : Task) (s : Progress) (left : Left) (w : Worked) (turn round place : ℕ) (o : Outcome) → IsLeft t s left
    → standing_of t.instance.now s left ≡ after_rounds t.instance.now t.nodes round → place < length (turned_of left.nodes.items)
    → HoldsAt (λ x. IsTurnBy t.instance.now s x o) (turned_of left.nodes.items) place → w ≡ record { turn = turn; round = round; place = place; outcome = o } → IsWorked t w
worked_there t s left w turn round place o is stands inside here same =
    subst (IsWorked t) (sym same) (turn_there t s left round place o is stands inside here)

-- a received evaluation is the node's, and so is an outcome that is as good
pub told_turn : (t : Task) (s : Progress) (left : Left) (w : Worked) (round place : ℕ) (o : Outcome) → IsWorked t w → w.round ≡ round → w.place ≡ place
    → IsAsGood w.outcome o → IsLeft t s left → standing_of t.instance.now s left ≡ after_rounds t.instance.now t.nodes round
    → HoldsAt (λ x. IsTurnBy t.instance.now s x o) (turned_of left.nodes.items) place
told_turn t s left w round place o worked at_round at_place good is stands =
    let p = t.instance.now in
    let nodes = turned_of left.nodes.items in
    λ d.
    let told = subst (λ (i : ℕ). IsTurnBy p s (get_or nodes i d) w.outcome) at_place (worked s left is (stands ∙ ap (after_rounds p t.nodes) (sym at_round)) d) in
    record {
      turn = λ hubs made stop. good.same ∙ told.turn hubs made stop;
      sound = good.sound p s.pool.entries (get_or nodes place d) told.sound;
    }

-- ---- rounds

pub after_none : (p : Problem) (n : Option ℕ) → at_root p (first_state p) ≡ after_rounds p n 0
unfolding after_rounds
after_none p n = refl

after_next : (p : Problem) (n : Option ℕ) (round : ℕ) → next_round p (parts_of p) n (after_rounds p n round) ≡ after_rounds p n (suc round)
unfolding after_rounds
after_next p n round = refl

pub after_more : (p : Problem) (n : Option ℕ) (round : ℕ) → next_round p (parts_of p) n (after_rounds p n round) ≡ after_rounds p n (round + 1)
after_more p n round = after_next p n round ∙ ap (after_rounds p n) (omega arith)
