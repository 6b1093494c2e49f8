-- Places that are put back, and lines that are finished.
use Rattle.std.proofs.Common.{◌≡◌, ◌≤◌, List, [], ◌∷◌, ◌++◌, length, All, Result, Ok, Err, OnOk, Vec, Global, refl, ap, sym, subst, ◌∙◌}
use Rattle.std.proofs.lemmas.List.Elements.{All-push}
use Rattle.hub_spec.specs.Limits.{most_tree_lines}
use Rattle.hub_spec.specs.Problem.{Problem}
use Rattle.hub_model.specs.declared.tree_lines.TreeLine as model
use Rattle.cut_pool.specs.Entries.{Entry}
use Rattle.search_core.specs.declared.tasks.Task.{Task}
use Rattle.search_steps.specs.declared.progress.Progress.{Progress}
use Rattle.search_steps.specs.Progressing.{IsGoing}
use Rattle.node_rounds.specs.declared.outcomes.Pending.{Pending}
use Rattle.node_rounds.specs.declared.fronts.Place.{Place}
use Rattle.node_rounds.specs.declared.fronts.Place.TheVariants as place
use Rattle.node_rounds.specs.declared.left.TreeSlot.{TreeSlot}
use Rattle.node_rounds.specs.declared.left.TreeSlot.TheVariants.{Line, Node}
use Rattle.node_rounds.specs.declared.left.Left.{Left}
use Rattle.node_rounds.specs.Outcomes.{IsPendingOf}
use Rattle.node_rounds.specs.Fronts.{places_of, IsPlaceOf}
use Rattle.node_rounds.specs.Left.{AreMatched, left_of, lines_first, IsLeft}
use Rattle.node_rounds.proofs.Lefts.{line_matched, line_unmatched, node_matched, left_line, left_node, last_is, others_are, one_back, one_settled}

-- ---- places are put back

-- with the places that are still to be put back it is what it was
pub record IsPuttingBack (before : Left) (given : List Place) (left : Left) (places : List Place) : Type 0 where
  pub same : places_of places ++ left_of left ≡ places_of given ++ left_of before
  pub matched : AreMatched left.marks.items left.nodes.items
  pub each : (p : Problem) (entries : List Entry) → All (IsPlaceOf p entries) given → All (IsPendingOf p entries) before.nodes.items
      → All (IsPlaceOf p entries) places × All (IsPendingOf p entries) left.nodes.items

pub back_first : (left : Left) (places : List Place) → AreMatched left.marks.items left.nodes.items → IsPuttingBack left places left places
back_first left places matched = record { same = refl; matched = matched; each = λ p entries are nodes. (are, nodes) }

-- a line
pub back_line : (before : Left) (given : List Place) (left : Left) (marks : Vec TreeSlot Global) (rest all : List Place) (x : Place) (l : model.TreeLine)
    → IsPuttingBack before given left all → all ≡ rest ++ x ∷ [] → x ≡ place.Line l → marks.items ≡ left.marks.items ++ Line l ∷ []
    → IsPuttingBack before given (record { marks = marks; nodes = left.nodes }) rest
back_line before given left marks rest all x l is ends line pushed =
    let now = ends ∙ ap (λ (y : Place). rest ++ y ∷ []) line in
    record {
      same = one_back rest all (place.Line l) (left_of left) (left_of (record { marks = marks; nodes = left.nodes })) now
          (left_line left.marks.items marks.items left.nodes.items l pushed is.matched)
          ∙ is.same;
      matched = line_matched left.marks.items marks.items left.nodes.items l pushed is.matched;
      each = λ p entries are nodes. (let both = is.each p entries are nodes in (others_are (IsPlaceOf p entries) rest all x ends both.0, both.1));
    }

-- a node
pub back_node : (before : Left) (given : List Place) (left : Left) (marks : Vec TreeSlot Global) (nodes : Vec Pending Global) (rest all : List Place) (x : Place) (node : Pending)
    → IsPuttingBack before given left all → all ≡ rest ++ x ∷ [] → x ≡ place.Open node → marks.items ≡ left.marks.items ++ Node ∷ []
    → nodes.items ≡ left.nodes.items ++ node ∷ [] → IsPuttingBack before given (record { marks = marks; nodes = nodes }) rest
back_node before given left marks nodes rest all x node is ends opens pushed more =
    let now = ends ∙ ap (λ (y : Place). rest ++ y ∷ []) opens in
    record {
      same = one_back rest all (place.Open node) (left_of left) (left_of (record { marks = marks; nodes = nodes })) now
          (left_node left.marks.items marks.items left.nodes.items nodes.items node pushed more is.matched)
          ∙ is.same;
      matched = node_matched left.marks.items marks.items left.nodes.items nodes.items node pushed more is.matched;
      each = λ p entries are ones. (let both = is.each p entries are ones in (
        others_are (IsPlaceOf p entries) rest all x ends both.0,
        subst (All (IsPendingOf p entries)) (sym more)
            (All-push (IsPendingOf p entries) left.nodes.items node both.1 (last_is (IsPlaceOf p entries) rest all (place.Open node) now both.0)),
      ));
    }

-- ---- lines are finished

-- with the lines that are finished it is what it was
pub record IsSettling (before : Left) (done : List model.TreeLine) (left : Left) (lines : List model.TreeLine) : Type 0 where
  pub same : lines_first lines (left_of left) ≡ lines_first done (left_of before)
  pub matched : AreMatched left.marks.items left.nodes.items
  pub nodes : left.nodes ≡ before.nodes
  pub few : length lines ≤ most_tree_lines

pub settling_first : (left : Left) (lines : List model.TreeLine) → AreMatched left.marks.items left.nodes.items → length lines ≤ most_tree_lines
    → IsSettling left lines left lines
settling_first left lines matched few = record { same = refl; matched = matched; nodes = refl; few = few }

-- a line
pub settle_line : (before : Left) (done : List model.TreeLine) (left : Left) (marks : Vec TreeSlot Global) (lines more : List model.TreeLine) (x : TreeSlot) (l : model.TreeLine)
    → IsSettling before done left lines → left.marks.items ≡ marks.items ++ x ∷ [] → x ≡ Line l → more ≡ lines ++ l ∷ [] → length more ≤ most_tree_lines
    → IsSettling before done (record { marks = marks; nodes = left.nodes }) more
settle_line before done left marks lines more x l is ends line pushed few =
    let now = ends ∙ ap (λ (y : TreeSlot). marks.items ++ y ∷ []) line in
    let matched = line_unmatched marks.items left.marks.items left.nodes.items l now is.matched in
    record {
      same = one_settled lines more l (left_of (record { marks = marks; nodes = left.nodes })) (left_of left) pushed
          (left_line marks.items left.marks.items left.nodes.items l now matched)
          ∙ is.same;
      matched = matched;
      nodes = is.nodes;
      few = few;
    }

-- ---- a round's end

-- what follows from three properties of one call, where it succeeds
told_thrice : {X Y A B C D : Type 0} (r : Result X Y) → OnOk r A → OnOk r B → OnOk r C → (A → B → C → D) → OnOk r D
told_thrice (Ok x) a b c go = go a b c
told_thrice (Err e) a b c go = tt

-- the search goes on with what is left once lines are finished
pub settled_left : {X Y : Type 0} (r : Result X Y) (t : Task) (s : Progress) (back new : Left) (lines : Vec model.TreeLine Global) → IsGoing t s
    → All (IsPendingOf t.instance.now s.pool.entries) back.nodes.items → OnOk r (new.nodes ≡ back.nodes) → OnOk r (AreMatched new.marks.items new.nodes.items)
    → OnOk r (length lines.items ≤ most_tree_lines) → OnOk r (IsLeft t (record s { lines = lines }) new)
settled_left r t s back new lines going nodes same matched few =
    told_thrice r same matched few (λ is are short. record {
      going = record {
        problem = going.problem;
        pool = going.pool;
        few_cuts = going.few_cuts;
        few_lines = short;
        hubs = going.hubs;
        cost = going.cost;
        made = going.made;
      };
      nodes = subst (λ (v : Vec Pending Global). All (IsPendingOf t.instance.now s.pool.entries) v.items) (sym is) nodes;
      matched = are;
    })
