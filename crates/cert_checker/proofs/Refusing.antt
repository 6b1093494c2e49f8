-- A check asks for memory where a line that begins a cut ends, and none does behind the number of the tree's lines.
use Rattle.std.proofs.Common.{◌≡◌, ℕ, ◌+◌, ◌-◌, List, [], ◌∷◌, ◌++◌, length, take, drop, flat_map, true, false, Some, nat_eq, ◌⊎◌, inl, inr, refl, sym, ap, subst, ◌∙◌, append_assoc, append-nil, arith}
use Rattle.std.specs.Prelude.{IsTrue, All, Contains, Result, Ok, Err, OnErr}
use Rattle.std.proofs.lemmas.Bool.{cond_both}
use Rattle.std.proofs.lemmas.List.{take-append-drop, take_rest}
use Rattle.std.proofs.lemmas.List.Elements.{All-nil, All-cons, All-head, All-tail, All-append, All-map, All-weaker, All-contains, Contains-append_right, Contains-append_cases}
use Rattle.core_spec.specs.CoreCuts.{Way}
use Rattle.hub_spec.specs.Problem.{commodity_at}
use Rattle.hub_spec.specs.Trees.{TreeLine, branch_on, leaf_of, no_hub, no_route, no_count}
use Rattle.cert_spec.specs.Lines.{part_of, Item as Line, says_version, says_size, says_cost, says_bound, says_hubs, says_route, says_cuts, says_cut, says_marked, says_dual, says_proof, says_nodes, says_tree, says_end}
use Rattle.cert_spec.specs.Grammar.{Shape, Stage, want_version, want_end, want_nothing, want_hubs, want_cut, want_nodes, want_dual, want_proved, want_proof, want_tree, Wants, places_after, after, after_tree, Leads}
use Rattle.cert_scan.specs.Scans.{new_scan, scanned, given_all}
use Rattle.cert_scan.specs.Versions.{version_of}
use Rattle.cert_scan.specs.Parts.{parts_of, hub_parts, mark_parts, value_parts, way_parts, weight_parts, tree_parts, none_left, open_mark, open_values, open_ways, open_weights}
use Rattle.cert_scan.specs.Given.{IsBegun}
use Rattle.cert_scan.specs.Runs.{Runs}
use Rattle.cert_scan.specs.declared.items.Item.{Item}
use Rattle.cert_scan.specs.declared.items.Item.TheVariants.{Version, Size, Cost, Bound, Hub, Route, Cuts, Cut, CoreHub, Dual, DualPair, Proof, ProofPair, Nodes, Branch, Leaf, LeafPair, Empty, Block, Count, End}
use Rattle.cert_scan.specs.declared.scanner.Scan.{Scan}
use Rattle.cert_scan.proofs.ScanBytes.{scanned-append, given_all-append}
use Rattle.cert_scan.proofs.Tracks.{scanned_given}
use Rattle.cert_conditions.specs.Steps.{IsCut}
use Rattle.cert_checker.specs.Fed.{BeginsCut, IsCutLine}
use Rattle.cert_conditions.proofs.Lists.{by_last}
use Rattle.cert_conditions.proofs.Parting.{mark_parts-last}

-- what holds, holds where an error is returned
pub on_err : {X Y : Type 0} (r : Result X Y) (P : Type 0) → P → OnErr r P
on_err (Ok x) P h = tt
on_err (Err e) P h = h

-- the items that these bytes give
abbrev pub items_in : List ℕ → List Item
items_in bytes = given_all new_scan bytes

-- the items that a piece gives behind these bytes
abbrev pub items_behind : List ℕ → List ℕ → List Item
items_behind bytes piece = given_all (scanned new_scan bytes) piece

-- one of the items tells how many lines the tree has
abbrev pub CountsTree : List Item → Type 0
CountsTree items = (all : ℕ) × Contains items (Nodes all)

-- the item does so
abbrev IsCount : Item → Type 0
IsCount (Nodes all) = Unit {0}
IsCount other = ⊥

abbrev pub IsNoCut : Item → Type 0
IsNoCut i = IsCut i → ⊥

abbrev IsNoCount : Item → Type 0
IsNoCount i = IsCount i → ⊥

-- it is one of a line that lists, and ends none that begins a cut
abbrev IsOfList : Item → Type 0
IsOfList (Hub k last) = Unit {0}
IsOfList (Cut number part last) = IsTrue last → ⊥
IsOfList (CoreHub k last) = IsTrue last → ⊥
IsOfList (Dual i j run a last) = Unit {0}
IsOfList (DualPair k u last) = Unit {0}
IsOfList (Proof turns scale last) = Unit {0}
IsOfList (ProofPair k m often last) = Unit {0}
IsOfList (Leaf denom last) = Unit {0}
IsOfList (LeafPair c w last) = Unit {0}
IsOfList other = ⊥

list_no_cut : (i : Item) → IsOfList i → IsNoCut i
list_no_cut (Cut number part last) h = h
list_no_cut (CoreHub k last) h = h
list_no_cut other h = λ is. is

list_no_count : (i : Item) → IsOfList i → IsNoCount i
list_no_count (Nodes all) h = λ is. h
list_no_count other h = λ is. is

-- ---- the items of lists

each : {X : Type 0} (P : X → Type 0) → ((x : X) → P x) → (xs : List X) → All P xs
each P h [] = All-nil P
each P h (x ∷ xs) = All-cons P x xs (h x) (each P h xs)

hubs_of_list : (hubs : List ℕ) → All IsOfList (hub_parts hubs)
hubs_of_list [] = All-nil IsOfList
hubs_of_list (k ∷ rest) = All-cons IsOfList (Hub k (none_left rest)) (hub_parts rest) tt (hubs_of_list rest)

values_of_list : (u : List (ℕ × ℕ)) → All IsOfList (value_parts u)
values_of_list [] = All-nil IsOfList
values_of_list (e ∷ rest) = All-cons IsOfList (DualPair e.0 e.1 (none_left rest)) (value_parts rest) tt (values_of_list rest)

ways_of_list : (ways : List Way) → All IsOfList (way_parts ways)
ways_of_list [] = All-nil IsOfList
ways_of_list (w ∷ rest) = All-cons IsOfList (ProofPair w.0 w.1 w.2 (none_left rest)) (way_parts rest) tt (ways_of_list rest)

-- an item that goes on ends no line
goes_on : IsTrue false → ⊥
goes_on e = cc

marks_of_list : (hubs : List ℕ) → All IsOfList (open_mark hubs)
marks_of_list hubs = All-map IsOfList (λ (k : ℕ). CoreHub k false) hubs (each (λ (k : ℕ). IsOfList (CoreHub k false)) (λ k. goes_on) hubs)

marks_no_count : (hubs : List ℕ) → All IsNoCount (mark_parts hubs)
marks_no_count [] = All-nil IsNoCount
marks_no_count (k ∷ rest) = All-cons IsNoCount (CoreHub k (none_left rest)) (mark_parts rest) (λ is. is) (marks_no_count rest)

weights_of_list : (weights : List (ℕ × ℕ)) → All IsOfList (weight_parts weights)
weights_of_list [] = All-nil IsOfList
weights_of_list (e ∷ rest) = All-cons IsOfList (LeafPair e.0 e.1 (none_left rest)) (weight_parts rest) tt (weights_of_list rest)

dual_of_list : (c : ℕ × ℕ) (run a : ℕ) (u : List (ℕ × ℕ)) → All IsOfList (Dual c.0 c.1 run a false ∷ open_values u)
dual_of_list c run a u =
    All-cons IsOfList (Dual c.0 c.1 run a false) (open_values u) tt
    (All-map IsOfList (λ (e : ℕ × ℕ). DualPair e.0 e.1 false) u (each (λ (e : ℕ × ℕ). IsOfList (DualPair e.0 e.1 false)) (λ e. tt) u))

-- what is given of a line whose end has not come is of a list
begun_of_list : (stage : Stage) (given : List Item) → IsBegun stage given → All IsOfList given
begun_of_list (want_hubs s) given h =
    subst (All IsOfList) (sym h.are) (All-map IsOfList (λ (k : ℕ). Hub k false) h.hubs (each (λ (k : ℕ). IsOfList (Hub k false)) (λ k. tt) h.hubs))
begun_of_list (want_cut s all x) given (inl none) = subst (All IsOfList) (sym none) (All-nil IsOfList)
begun_of_list (want_cut s all x) given (inr h) =
    subst (All IsOfList) (sym h.are) (All-cons IsOfList (Cut (x + 1) h.part false) (open_mark h.hubs) goes_on (marks_of_list h.hubs))
begun_of_list (want_proved s all x t) given (inl none) = subst (All IsOfList) (sym none) (All-nil IsOfList)
begun_of_list (want_proved s all x t) given (inr h) = subst (All IsOfList) (sym h.are) (dual_of_list (commodity_at s.size t) 1 h.dual.a h.dual.u)
begun_of_list (want_proof s all x t) given (inl none) = subst (All IsOfList) (sym none) (All-nil IsOfList)
begun_of_list (want_proof s all x t) given (inr h) =
    subst (All IsOfList) (sym h.are) (All-cons IsOfList (Proof h.proof.turns h.proof.scale false) (open_ways h.proof.ways) tt
    (All-map IsOfList (λ (w : Way). ProofPair w.0 w.1 w.2 false) h.proof.ways
    (each (λ (w : Way). IsOfList (ProofPair w.0 w.1 w.2 false)) (λ w. tt) h.proof.ways)))
begun_of_list (want_dual s all x t before) given (inl none) = subst (All IsOfList) (sym none) (All-nil IsOfList)
begun_of_list (want_dual s all x t before) given (inr h) =
    subst (All IsOfList) (sym h.are) (dual_of_list (commodity_at s.size t) h.run h.dual.a h.dual.u)
begun_of_list (want_tree s places left) given (inl none) = subst (All IsOfList) (sym none) (All-nil IsOfList)
begun_of_list (want_tree s places left) given (inr h) =
    subst (All IsOfList) (sym h.are) (All-cons IsOfList (Leaf h.denom false) (open_weights h.weights) tt
    (All-map IsOfList (λ (e : ℕ × ℕ). LeafPair e.0 e.1 false) h.weights (each (λ (e : ℕ × ℕ). IsOfList (LeafPair e.0 e.1 false)) (λ e. tt) h.weights)))
begun_of_list stage given h = subst (All IsOfList) (sym h) (All-nil IsOfList)

pub begun_no_cut : (stage : Stage) (given : List Item) → IsBegun stage given → All IsNoCut given
begun_no_cut stage given h = All-weaker IsOfList IsNoCut list_no_cut given (begun_of_list stage given h)

tree_no_cut : (line : TreeLine) → All IsNoCut (tree_parts line)
tree_no_cut (branch_on k) = All-cons IsNoCut (Branch k) [] (λ is. is) (All-nil IsNoCut)
tree_no_cut (leaf_of denom weights) =
    All-cons IsNoCut (Leaf denom (none_left weights)) (weight_parts weights) (λ is. is) (All-weaker IsOfList IsNoCut list_no_cut (weight_parts weights) (weights_of_list weights))
tree_no_cut no_hub = All-cons IsNoCut Empty [] (λ is. is) (All-nil IsNoCut)
tree_no_cut (no_route commodity) = All-cons IsNoCut (Block commodity.0 commodity.1) [] (λ is. is) (All-nil IsNoCut)
tree_no_cut no_count = All-cons IsNoCut Count [] (λ is. is) (All-nil IsNoCut)

-- a line that begins a cut, whose last item ends it
pub record EndsCut (line : Line) : Type 0 where
  pub is_cut : IsCutLine line
  pub front : List Item
  pub last : Item
  pub parts : parts_of line ≡ front ++ last ∷ []
  pub none : All IsNoCut front
  pub ends : IsCut last

mark_or_none : (number part : ℕ) (hubs : List ℕ) → EndsCut (says_marked number part hubs) ⊎ All IsNoCut (parts_of (says_marked number part hubs))
mark_or_none number part hubs =
    elim (by_last hubs) as (λ v. EndsCut (says_marked number part hubs) ⊎ All IsNoCut (parts_of (says_marked number part hubs))) [
      | inl none ↦ inr (All-cons IsNoCut (Cut number part false) (mark_parts hubs) goes_on
          (subst (λ l. All IsNoCut (mark_parts l)) (sym none) (All-nil IsNoCut)))
      | inr h ↦
          let front = h.0 in
          let k = h.1 in
          inl (record {
            is_cut = tt;
            front = Cut number part false ∷ open_mark front;
            last = CoreHub k true;
            parts = ap (λ l. Cut number part false ∷ l) (ap mark_parts h.2 ∙ mark_parts-last front k);
            none = All-cons IsNoCut (Cut number part false) (open_mark front) goes_on
                (All-weaker IsOfList IsNoCut list_no_cut (open_mark front) (marks_of_list front));
            ends = refl;
          })
    ]

-- a line begins a cut, or none of its items does
pub cut_or_none : (line : Line) → EndsCut line ⊎ All IsNoCut (parts_of line)
cut_or_none (says_version v) = inr (All-cons IsNoCut (Version (version_of v)) [] (λ is. is) (All-nil IsNoCut))
cut_or_none (says_size n q) = inr (All-cons IsNoCut (Size n q) [] (λ is. is) (All-nil IsNoCut))
cut_or_none (says_cost c) = inr (All-cons IsNoCut (Cost c) [] (λ is. is) (All-nil IsNoCut))
cut_or_none (says_bound b) = inr (All-cons IsNoCut (Bound b) [] (λ is. is) (All-nil IsNoCut))
cut_or_none (says_hubs hubs) = inr (All-weaker IsOfList IsNoCut list_no_cut (hub_parts hubs) (hubs_of_list hubs))
cut_or_none (says_route commodity route) =
    inr (All-cons IsNoCut (Route commodity.0 commodity.1 route.0 route.1) [] (λ is. is) (All-nil IsNoCut))
cut_or_none (says_cuts all) = inr (All-cons IsNoCut (Cuts all) [] (λ is. is) (All-nil IsNoCut))
cut_or_none (says_cut number part) =
    inl (record { is_cut = tt; front = []; last = Cut number (part_of part) true; parts = refl; none = All-nil IsNoCut; ends = refl })
cut_or_none (says_marked number part hubs) = mark_or_none number part hubs
cut_or_none (says_dual commodity run dual) =
    inr (All-cons IsNoCut (Dual commodity.0 commodity.1 run dual.a (none_left dual.u)) (value_parts dual.u) (λ is. is)
    (All-weaker IsOfList IsNoCut list_no_cut (value_parts dual.u) (values_of_list dual.u)))
cut_or_none (says_proof proof) =
    inr (All-cons IsNoCut (Proof proof.turns proof.scale (none_left proof.ways)) (way_parts proof.ways) (λ is. is)
    (All-weaker IsOfList IsNoCut list_no_cut (way_parts proof.ways) (ways_of_list proof.ways)))
cut_or_none (says_nodes all) = inr (All-cons IsNoCut (Nodes all) [] (λ is. is) (All-nil IsNoCut))
cut_or_none (says_tree line) = inr (tree_no_cut line)
cut_or_none says_end = inr (All-cons IsNoCut End [] (λ is. is) (All-nil IsNoCut))

-- ---- the lines of the tree

-- the number of the tree's lines has come
abbrev IsInTree : Stage → Type 0
IsInTree (want_tree s places left) = Unit {0}
IsInTree want_end = Unit {0}
IsInTree want_nothing = Unit {0}
IsInTree stage = ⊥

in_tree_after : (s : Shape) (places left : ℕ) → IsInTree (after_tree s places left)
in_tree_after s places left = cond_both (nat_eq left 0) want_end (want_tree s places left) IsInTree (λ e. tt) (λ e. tt)

in_tree_line : (stage : Stage) (line : Line) → IsInTree stage → Wants stage line → All IsNoCut (parts_of line) × IsInTree (after stage line)
in_tree_line (want_tree s places left) (says_tree line) h w = (tree_no_cut line, in_tree_after s (places_after places line) (left - 1))
in_tree_line (want_tree s places left) line h w = absurd w
in_tree_line want_end says_end h w = (All-cons IsNoCut End [] (λ is. is) (All-nil IsNoCut), tt)
in_tree_line want_end line h w = absurd w
in_tree_line want_nothing line h w = absurd w
in_tree_line stage line h w = absurd h

tree_lines_no_cut : (stage : Stage) (lines : List Line) (last : Stage) (more : List Item) → IsInTree stage → Leads stage lines last → IsBegun last more
    → All IsNoCut (flat_map parts_of lines ++ more)
tree_lines_no_cut stage [] last more h lead begun = begun_no_cut last more begun
tree_lines_no_cut stage (line ∷ lines) last more h lead begun =
    let step = in_tree_line stage line h lead.0 in
    subst (All IsNoCut) (sym (append_assoc (parts_of line) (flat_map parts_of lines) more))
    (All-append IsNoCut (parts_of line) (flat_map parts_of lines ++ more) step.0 (tree_lines_no_cut (after stage line) lines last more step.1 lead.1 begun))

-- ---- all lines

-- no cut begins behind the number of the tree's lines
abbrev InTurn : List Item → Type 0
InTurn [] = Unit {0}
InTurn (i ∷ items) = (IsCount i → All IsNoCut items) × InTurn items

in_turn-append : (xs ys : List Item) → All IsNoCount xs → InTurn ys → InTurn (xs ++ ys)
in_turn-append [] ys h k = k
in_turn-append (x ∷ xs) ys h k = ((λ is. absurd (All-head IsNoCount x xs h is)), in_turn-append xs ys (All-tail IsNoCount x xs h) k)

list_in_turn : (xs ys : List Item) → All IsOfList xs → InTurn ys → InTurn (xs ++ ys)
list_in_turn xs ys h k = in_turn-append xs ys (All-weaker IsOfList IsNoCount list_no_count xs h) k

tree_in_turn : (line : TreeLine) (rest : List Item) → InTurn rest → InTurn (tree_parts line ++ rest)
tree_in_turn (branch_on k) rest h = ((λ is. absurd is), h)
tree_in_turn (leaf_of denom weights) rest h = ((λ is. absurd is), list_in_turn (weight_parts weights) rest (weights_of_list weights) h)
tree_in_turn no_hub rest h = ((λ is. absurd is), h)
tree_in_turn (no_route commodity) rest h = ((λ is. absurd is), h)
tree_in_turn no_count rest h = ((λ is. absurd is), h)

line_in_turn : (line : Line) (stage : Stage) (rest : List Item) → Wants stage line → InTurn rest → (IsInTree (after stage line) → All IsNoCut rest)
    → InTurn (parts_of line ++ rest)
line_in_turn (says_version v) stage rest w h none = ((λ is. absurd is), h)
line_in_turn (says_size n q) stage rest w h none = ((λ is. absurd is), h)
line_in_turn (says_cost c) stage rest w h none = ((λ is. absurd is), h)
line_in_turn (says_bound b) stage rest w h none = ((λ is. absurd is), h)
line_in_turn (says_hubs hubs) stage rest w h none = list_in_turn (hub_parts hubs) rest (hubs_of_list hubs) h
line_in_turn (says_route commodity route) stage rest w h none = ((λ is. absurd is), h)
line_in_turn (says_cuts all) stage rest w h none = ((λ is. absurd is), h)
line_in_turn (says_cut number part) stage rest w h none = ((λ is. absurd is), h)
line_in_turn (says_marked number part hubs) stage rest w h none = ((λ is. absurd is), in_turn-append (mark_parts hubs) rest (marks_no_count hubs) h)
line_in_turn (says_dual commodity run dual) stage rest w h none = ((λ is. absurd is), list_in_turn (value_parts dual.u) rest (values_of_list dual.u) h)
line_in_turn (says_proof proof) stage rest w h none = ((λ is. absurd is), list_in_turn (way_parts proof.ways) rest (ways_of_list proof.ways) h)
line_in_turn (says_nodes all) (want_nodes s) rest w h none = ((λ is. none tt), h)
line_in_turn (says_nodes all) stage rest w h none = absurd w
line_in_turn (says_tree line) stage rest w h none = tree_in_turn line rest h
line_in_turn says_end stage rest w h none = ((λ is. absurd is), h)

lines_in_turn : (stage : Stage) (lines : List Line) (last : Stage) (more : List Item) → Leads stage lines last → IsBegun last more
    → InTurn (flat_map parts_of lines ++ more)
lines_in_turn stage [] last more lead begun = subst InTurn (append-nil more) (list_in_turn more [] (begun_of_list last more begun) tt)
lines_in_turn stage (line ∷ lines) last more lead begun =
    subst InTurn (sym (append_assoc (parts_of line) (flat_map parts_of lines) more))
    (line_in_turn line stage (flat_map parts_of lines ++ more) lead.0 (lines_in_turn (after stage line) lines last more lead.1 begun)
    (λ h. tree_lines_no_cut (after stage line) lines last more h lead.1 begun))

no_cut_behind : (xs ys : List Item) (all : ℕ) (i : Item) → InTurn (xs ++ ys) → Contains xs (Nodes all) → Contains ys i → IsCut i → ⊥
no_cut_behind [] ys all i h counts cut is = absurd (omega (arith, counts.1))
no_cut_behind (x ∷ xs) ys all i h counts cut is =
    let behind : IsNoCount x = λ counts_it. All-contains IsNoCut (xs ++ ys) i (h.0 counts_it) (Contains-append_right xs ys i cut) is in
    elim (Contains-append_cases (x ∷ []) xs (Nodes all) counts) [
      | inl here ↦ All-contains IsNoCount (x ∷ []) (Nodes all) (All-cons IsNoCount x [] behind (All-nil IsNoCount)) here tt
      | inr later ↦ no_cut_behind xs ys all i h.1 later cut is
    ]

-- once the number of the tree's lines has come, no piece begins a cut
pub no_cut_once_counted : (bytes piece : List ℕ) → CountsTree (items_in bytes) → BeginsCut (items_behind bytes piece) → ⊥
no_cut_once_counted bytes piece counts cut =
    let all = scanned_given (bytes ++ piece) (given_all new_scan (bytes ++ piece)) (scanned new_scan (bytes ++ piece)) (record { reached = refl; gives = refl }) in
    let in_turn : InTurn (given_all new_scan (bytes ++ piece)) = subst InTurn (sym all.are) (lines_in_turn want_version all.lines all.stage all.more all.lead all.begun) in
    no_cut_behind (items_in bytes) (items_behind bytes piece) counts.0 cut.0 (subst InTurn (given_all-append new_scan bytes piece) in_turn) counts.1 cut.1 cut.2

-- ---- the item that is refused

-- it is one that the bytes give
pub run_begins_cut : (old new : Scan) (bytes : List ℕ) (taken : ℕ) (i : Item) → Runs old bytes taken (Some i) new → IsCut i → BeginsCut (given_all old bytes)
run_begins_cut old new bytes taken i r is =
    let later = given_all (scanned old (take taken bytes)) (drop taken bytes) in
    let all : given_all old bytes ≡ i ∷ later =
    ap (given_all old) (sym (take-append-drop taken bytes)) ∙ given_all-append old (take taken bytes) (drop taken bytes) ∙ ap (λ g. g ++ later) r.given in
    (i, subst (λ g. Contains g i) (sym all) (0, omega arith, refl), is)

-- and so one that the whole piece gives
pub later_begins_cut : (bytes piece : List ℕ) (at : ℕ) (old now : Scan) → scanned new_scan bytes ≡ old → scanned new_scan (bytes ++ take at piece) ≡ now
    → BeginsCut (given_all now (take (length piece - at) (drop at piece))) → BeginsCut (given_all old piece)
later_begins_cut bytes piece at old now first second cut =
    let there : scanned old (take at piece) ≡ now = ap (λ s. scanned s (take at piece)) (sym first) ∙ sym (scanned-append new_scan bytes (take at piece)) ∙ second in
    let rest = take (length piece - at) (drop at piece) in
    let all : given_all old piece ≡ given_all old (take at piece) ++ given_all now rest =
    ap (given_all old) (sym (take-append-drop at piece)) ∙ given_all-append old (take at piece) (drop at piece)
    ∙ (λ i. given_all old (take at piece) ++ given_all (there i) (sym (take_rest piece at) i)) in
    (cut.0, subst (λ g. Contains g cut.0) (sym all) (Contains-append_right (given_all old (take at piece)) (given_all now rest) cut.0 cut.1), cut.2)
