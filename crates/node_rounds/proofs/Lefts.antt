-- What is left of the tree, by its marks and its nodes.
use Rattle.std.proofs.Common.{◌≡◌, Bool, false, nat_eq, true≢false, ◌+◌, ◌≤◌, List, [], ◌∷◌, ◌++◌, length, map, All, refl, ap, sym, subst, ◌∙◌, append_assoc, arith}
use Rattle.std.proofs.lemmas.List.Elements.{All-nil, All-cons, All-head, All-tail}
use Rattle.std.proofs.lemmas.List.{map-append, length_push}
use Rattle.hub_model.specs.declared.tree_lines.TreeLine as model
use Rattle.hub_model.specs.Lines.{tree_line_of}
use Rattle.cut_pool.specs.Findings.{lines_of}
use Rattle.search_spec.specs.Places as places
use Rattle.node_rounds.specs.declared.outcomes.Pending.{Pending}
use Rattle.node_rounds.specs.declared.fronts.Place.{Place}
use Rattle.node_rounds.specs.declared.left.TreeSlot.{TreeSlot}
use Rattle.node_rounds.specs.declared.left.TreeSlot.TheVariants.{Line, Node}
use Rattle.node_rounds.specs.Outcomes.{pending_of}
use Rattle.node_rounds.specs.Fronts.{place_of, places_of}
use Rattle.node_rounds.specs.Left.{marked, AreMatched, placed, lines_first}

-- ---- one mark more

pub marked_more : (ms : List TreeSlot) (m : TreeSlot) → marked (ms ++ m ∷ []) ≡ marked ms + marked (m ∷ [])
marked_more [] (Line l) = refl
marked_more [] Node = refl
marked_more (Line l ∷ ms) m = marked_more ms m
marked_more (Node ∷ ms) m = omega (arith, marked_more ms m)

-- a line before the others
pub placed_line : (ms : List TreeSlot) (xs : List Pending) (l : model.TreeLine) (after : List places.Place) → AreMatched ms xs
    → placed (ms ++ Line l ∷ []) xs after ≡ places.line (tree_line_of l) ∷ placed ms xs after
placed_line [] xs l after same = refl
placed_line (Line m ∷ ms) xs l after same = placed_line ms xs l (places.line (tree_line_of m) ∷ after) same
placed_line (Node ∷ ms) [] l after same = absurd (omega (arith, same))
placed_line (Node ∷ ms) (x ∷ xs) l after same = placed_line ms xs l (places.open_at (pending_of x) ∷ after) (omega (arith, same))

-- a node before the others
pub placed_node : (ms : List TreeSlot) (xs : List Pending) (x : Pending) (after : List places.Place) → AreMatched ms xs
    → placed (ms ++ Node ∷ []) (xs ++ x ∷ []) after ≡ places.open_at (pending_of x) ∷ placed ms xs after
placed_node [] [] x after same = refl
placed_node [] (y ∷ ys) x after same = absurd (omega (arith, same))
placed_node (Line m ∷ ms) xs x after same = placed_node ms xs x (places.line (tree_line_of m) ∷ after) same
placed_node (Node ∷ ms) [] x after same = absurd (omega (arith, same))
placed_node (Node ∷ ms) (y ∷ ys) x after same = placed_node ms ys x (places.open_at (pending_of y) ∷ after) (omega (arith, same))

-- ---- the same, by equations of marks and nodes

-- marks and nodes stay matched with a line more or less
pub line_matched : (ms more : List TreeSlot) (xs : List Pending) (l : model.TreeLine) → more ≡ ms ++ Line l ∷ [] → AreMatched ms xs → AreMatched more xs
line_matched ms more xs l is same = ap marked is ∙ marked_more ms (Line l) ∙ omega (arith, same)

pub line_unmatched : (ms more : List TreeSlot) (xs : List Pending) (l : model.TreeLine) → more ≡ ms ++ Line l ∷ [] → AreMatched more xs → AreMatched ms xs
line_unmatched ms more xs l is same = omega (arith, sym (ap marked is ∙ marked_more ms (Line l)), same)

-- and with a node more or less
pub node_matched : (ms more : List TreeSlot) (xs ys : List Pending) (x : Pending) → more ≡ ms ++ Node ∷ [] → ys ≡ xs ++ x ∷ [] → AreMatched ms xs
    → AreMatched more ys
node_matched ms more xs ys x is are same =
    ap marked is ∙ marked_more ms Node ∙ omega (arith, same, length_push xs x) ∙ sym (ap length are)

pub node_unmatched : (ms more : List TreeSlot) (xs ys : List Pending) (x : Pending) → more ≡ ms ++ Node ∷ [] → ys ≡ xs ++ x ∷ [] → AreMatched more ys
    → AreMatched ms xs
node_unmatched ms more xs ys x is are same =
    omega (arith, sym (ap marked is ∙ marked_more ms Node), same, ap length are, length_push xs x)

-- there is a node for a mark that stands for one
pub node_there : (ms more : List TreeSlot) (xs : List Pending) → more ≡ ms ++ Node ∷ [] → AreMatched more xs → 1 ≤ length xs
node_there ms more xs is same = omega (arith, sym (ap marked is ∙ marked_more ms Node), same)

-- what is left with a line more
pub left_line : (ms more : List TreeSlot) (xs : List Pending) (l : model.TreeLine) → more ≡ ms ++ Line l ∷ [] → AreMatched ms xs
    → placed more xs [] ≡ places.line (tree_line_of l) ∷ placed ms xs []
left_line ms more xs l is same = ap (λ (ns : List TreeSlot). placed ns xs []) is ∙ placed_line ms xs l [] same

-- what is left with a node more
pub left_node : (ms more : List TreeSlot) (xs ys : List Pending) (x : Pending) → more ≡ ms ++ Node ∷ [] → ys ≡ xs ++ x ∷ [] → AreMatched ms xs
    → placed more ys [] ≡ places.open_at (pending_of x) ∷ placed ms xs []
left_node ms more xs ys x is are same =
    ap (λ (ns : List TreeSlot). placed ns ys []) is ∙ ap (λ (zs : List Pending). placed (ms ++ Node ∷ []) zs []) are ∙ placed_node ms xs x [] same

-- nothing is left where no mark is
pub left_none : (ms : List TreeSlot) (xs : List Pending) → ms ≡ [] → placed ms xs [] ≡ []
left_none ms xs none = ap (λ (ns : List TreeSlot). placed ns xs []) none

-- ---- what holds of all

-- a list with no item
pub no_items : {X : Type 0} (xs : List X) → length xs ≡ 0 → xs ≡ []
no_items [] none = refl
no_items (x ∷ xs) none = absurd (omega (arith, none))

-- and one with some, as a test tells
pub some_items : {X : Type 0} (xs : List X) (test : Bool) → test ≡ nat_eq (length xs) 0 → test ≡ false → 1 ≤ length xs
some_items [] test is not_so = absurd (true≢false (sym is ∙ not_so))
some_items (x ∷ xs) test is not_so = omega arith

-- it holds of the last
pub last_is : {X : Type 0} (P : X → Type 0) (xs all : List X) (x : X) → all ≡ xs ++ x ∷ [] → All P all → P x
last_is P xs all x is are = by xs (subst (All P) is are)
  where
    by : (ys : List _) → All P (ys ++ x ∷ []) → P x
    by [] h = All-head P x [] h
    by (y ∷ ys) h = by ys (All-tail P y (ys ++ x ∷ []) h)

-- and of the others
pub others_are : {X : Type 0} (P : X → Type 0) (xs all : List X) (x : X) → all ≡ xs ++ x ∷ [] → All P all → All P xs
others_are P xs all x is are = by xs (subst (All P) is are)
  where
    by : (ys : List _) → All P (ys ++ x ∷ []) → All P ys
    by [] h = All-nil P
    by (y ∷ ys) h = All-cons P y ys (All-head P y (ys ++ x ∷ []) h) (by ys (All-tail P y (ys ++ x ∷ []) h))

-- ---- places that are put back, and lines that are finished

-- the last place of some goes before what is left
pub one_back : (rest all : List Place) (x : Place) (left more : List places.Place) → all ≡ rest ++ x ∷ [] → more ≡ place_of x ∷ left
    → places_of rest ++ more ≡ places_of all ++ left
one_back rest all x left more is back =
    ap (λ (ps : List places.Place). places_of rest ++ ps) back ∙ sym (append_assoc (places_of rest) (place_of x ∷ []) left)
    ∙ sym (ap (λ (ps : List places.Place). ps ++ left) (ap places_of is ∙ map-append place_of rest (x ∷ [])))

-- the first line of what is left is finished
pub one_settled : (lines more : List model.TreeLine) (l : model.TreeLine) (left all : List places.Place) → more ≡ lines ++ l ∷ []
    → all ≡ places.line (tree_line_of l) ∷ left → lines_first more left ≡ lines_first lines all
one_settled lines more l left all is before =
    ap (λ (ls : List model.TreeLine). lines_first ls left) is
    ∙ ap (λ (ps : List places.Place). ps ++ left)
    (ap (map places.line) (map-append tree_line_of lines (l ∷ [])) ∙ map-append places.line (lines_of lines) (tree_line_of l ∷ []))
    ∙ append_assoc (map places.line (lines_of lines)) (places.line (tree_line_of l) ∷ []) left
    ∙ sym (ap (lines_first lines) before)
