-- Lines that lead on from the tree: the tree that they are of.
use Rattle.std.proofs.Common.{◌≡◌, ℕ, ◌+◌, ◌-◌, ◌≤◌, List, [], ◌∷◌, ◌++◌, length, map, refl, sym, ap, ◌∙◌, subst, arith, zero, suc, append_assoc, append-nil}
use Rattle.std.specs.Prelude.{flat_map}
use Rattle.std.specs.List.{AllByRecursion}
use Rattle.hub_spec.specs.Limits.{most_tree_lines}
use Rattle.hub_spec.specs.Trees.{Tree, branch, leaf, empty, block, count, TreeLine, branch_on, leaf_of, no_hub, no_route, no_count, preorder, line_count}
use Rattle.cert_spec.specs.Lines.{Item, says_nodes, says_tree, says_end}
use Rattle.cert_spec.specs.Grammar.{want_end, want_nothing, want_nodes, want_tree, Shape, places_after, IsOpen, after_tree, after}
use Rattle.cert_spec.proofs.Leads.{after_tree-all, after_tree-more, IsLineOf}
use Rattle.cert_spec.proofs.FirstLines.{Ends, First, first_line, nodes_wanted, tree_wanted, end_wanted}

-- the lines of several trees
abbrev lines_of : List Tree → ℕ
lines_of [] = 0
lines_of (t ∷ ts) = line_count t + lines_of ts

-- as many trees as places, with the lines that are left
record ReadTrees (s : Shape) (places left : ℕ) (items : List Item) : Type 0 where
  trees : List Tree
  rest : List Item
  are : items ≡ map says_tree (flat_map preorder trees) ++ rest
  many : length trees ≡ places
  long : lines_of trees ≡ left
  each : AllByRecursion (IsLineOf s) (flat_map preorder trees)
  ends : Ends want_end rest

-- with one more line in front
with_line : (s : Shape) (places left : ℕ) (line : TreeLine) (items rest : List Item) → 1 ≤ places → items ≡ says_tree line ∷ rest → IsLineOf s line
    → ReadTrees s (places_after places line) left rest → ReadTrees s places (suc left) items
with_line s places left (leaf_of denom weights) items rest some are text h = record {
  trees = leaf denom weights ∷ h.trees;
  rest = h.rest;
  are = are ∙ ap (λ l. says_tree (leaf_of denom weights) ∷ l) h.are;
  many = omega (arith, h.many);
  long = omega (arith, h.long);
  each = (text, h.each);
  ends = h.ends;
}
with_line s places left no_hub items rest some are text h = record {
  trees = empty ∷ h.trees;
  rest = h.rest;
  are = are ∙ ap (λ l. says_tree no_hub ∷ l) h.are;
  many = omega (arith, h.many);
  long = omega (arith, h.long);
  each = (text, h.each);
  ends = h.ends;
}
with_line s places left (no_route commodity) items rest some are text h = record {
  trees = block commodity ∷ h.trees;
  rest = h.rest;
  are = are ∙ ap (λ l. says_tree (no_route commodity) ∷ l) h.are;
  many = omega (arith, h.many);
  long = omega (arith, h.long);
  each = (text, h.each);
  ends = h.ends;
}
with_line s places left no_count items rest some are text h = record {
  trees = count ∷ h.trees;
  rest = h.rest;
  are = are ∙ ap (λ l. says_tree no_count ∷ l) h.are;
  many = omega (arith, h.many);
  long = omega (arith, h.long);
  each = (text, h.each);
  ends = h.ends;
}
with_line s places left (branch_on k) items rest some are text h =
    with_branch h.trees h.rest h.are h.many h.long h.each h.ends
  where
    with_branch : (trees : List Tree) (after : List Item) → rest ≡ map says_tree (flat_map preorder trees) ++ after → length trees ≡ places + 1 → lines_of trees ≡ left
        → AllByRecursion (IsLineOf s) (flat_map preorder trees) → Ends want_end after → ReadTrees s places (suc left) items
    with_branch [] after is many long each ends = absurd (omega arith)
    with_branch (a ∷ []) after is many long each ends = absurd (omega arith)
    with_branch (a ∷ b ∷ trees) after is many long each ends = record {
      trees = branch k a b ∷ trees;
      rest = after;
      are = are ∙ ap (λ l. says_tree (branch_on k) ∷ l) (is ∙ ap (λ l. map says_tree l ++ after) (sym (append_assoc (preorder a) (preorder b) (flat_map preorder trees))));
      many = omega arith;
      long = omega arith;
      each = (text, subst (AllByRecursion (IsLineOf s)) (sym (append_assoc (preorder a) (preorder b) (flat_map preorder trees))) each);
      ends = ends;
    }

no_trees : (s : Shape) (items : List Item) → Ends want_end items → ReadTrees s 0 0 items
no_trees s items h = record { trees = []; rest = items; are = refl; many = refl; long = refl; each = tt; ends = h }

some_place : (places left : ℕ) → IsOpen places (suc left) → 1 ≤ places
some_place zero left room = absurd (omega (arith, room.1 refl))
some_place (suc places) left room = omega arith

first_tree_line : (s : Shape) (places left : ℕ) (items : List Item) → Ends (after_tree s places (suc left)) items → First (want_tree s places (suc left)) items
first_tree_line s places left items h =
    first_line (want_tree s places (suc left)) items (λ e. cc) (subst (λ stage. Ends stage items) (after_tree-more s places (suc left) (omega arith)) h)

-- what a tree line is, with what is after it
record TreeStep (s : Shape) (places left : ℕ) (items : List Item) : Type 0 where
  line : TreeLine
  rest : List Item
  are : items ≡ says_tree line ∷ rest
  text : IsLineOf s line
  room : IsOpen (places_after places line) left
  ends : Ends (after_tree s (places_after places line) left) rest

tree_step : (s : Shape) (places left : ℕ) (items : List Item) → First (want_tree s places (suc left)) items → TreeStep s places left items
tree_step s places left items line =
    let tree = tree_wanted s places (suc left) line.item line.wanted in
    let next : suc left - 1 ≡ left = omega arith in
    record {
      line = tree.0;
      rest = line.rest;
      are = line.are ∙ ap (λ i. i ∷ line.rest) tree.1;
      text = tree.2;
      room = subst (IsOpen (places_after places tree.0)) next tree.3;
      ends = subst (λ l. Ends (after_tree s (places_after places tree.0) l) line.rest) next
          (subst (λ i. Ends (after (want_tree s places (suc left)) i) line.rest) tree.1 line.ends);
    }

read_trees : (s : Shape) (places left : ℕ) (items : List Item) → IsOpen places left → Ends (after_tree s places left) items → ReadTrees s places left items
read_trees s places zero items room h =
    let none : 0 ≡ places = omega (arith, room.0) in
    subst (λ p. ReadTrees s p 0 items) none (no_trees s items (subst (λ stage. Ends stage items) (after_tree-all s places 0 refl) h))
read_trees s places (suc left) items room h =
    let step = tree_step s places left items (first_tree_line s places left items h) in
    with_line s places left step.line items step.rest (some_place places left room) step.are step.text
    (read_trees s (places_after places step.line) left step.rest step.room step.ends)

-- the tree and the end
pub record ReadEnd (s : Shape) (items : List Item) : Type 0 where
  pub tree : Tree
  pub are : items ≡ says_nodes (line_count tree) ∷ (map says_tree (preorder tree) ++ says_end ∷ [])
  pub few : line_count tree ≤ most_tree_lines
  pub each : AllByRecursion (IsLineOf s) (preorder tree)

nothing_left : (items : List Item) → Ends want_nothing items → items ≡ []
nothing_left [] h = refl
nothing_left (item ∷ items) h = absurd h.0

one_end : (items : List Item) → First want_end items → items ≡ says_end ∷ []
one_end items line =
    let is = end_wanted line.item line.wanted in
    let none = nothing_left line.rest (subst (λ i. Ends (after want_end i) line.rest) is line.ends) in
    line.are ∙ ap (λ i. i ∷ line.rest) is ∙ ap (λ l. says_end ∷ l) none

just_end : (items : List Item) → Ends want_end items → items ≡ says_end ∷ []
just_end items h = one_end items (first_line want_end items (λ e. cc) h)

one_tree : (s : Shape) (all : ℕ) (items rest : List Item) → items ≡ says_nodes all ∷ rest → all ≤ most_tree_lines → ReadTrees s 1 all rest → ReadEnd s items
one_tree s all items rest are few h = from_trees h.trees h.are h.many h.long h.each
  where
    from_trees : (trees : List Tree) → rest ≡ map says_tree (flat_map preorder trees) ++ h.rest → length trees ≡ 1 → lines_of trees ≡ all
        → AllByRecursion (IsLineOf s) (flat_map preorder trees) → ReadEnd s items
    from_trees [] is many long each = absurd (omega arith)
    from_trees (t ∷ []) is many long each =
        let same : all ≡ line_count t = omega arith in
        record {
          tree = t;
          are = are ∙ ap (λ a. says_nodes a ∷ rest) same
              ∙ ap (λ l. says_nodes (line_count t) ∷ l) (is ∙ ap (λ l. map says_tree l ++ h.rest) (append-nil (preorder t)) ∙ ap (λ l. map says_tree (preorder t) ++ l) (just_end h.rest h.ends));
          few = omega arith;
          each = subst (AllByRecursion (IsLineOf s)) (append-nil (preorder t)) each;
        }
    from_trees (t ∷ u ∷ trees) is many long each = absurd (omega arith)

end_from : (s : Shape) (items : List Item) → First (want_nodes s) items → ReadEnd s items
end_from s items line =
    let all = nodes_wanted s line.item line.wanted in
    let ends : Ends (want_tree s 1 all.0) line.rest = subst (λ i. Ends (after (want_nodes s) i) line.rest) all.1 line.ends in
    one_tree s all.0 items line.rest (line.are ∙ ap (λ i. i ∷ line.rest) all.1) all.3
    (read_trees s 1 all.0 line.rest (all.2, λ e. omega arith) (subst (λ stage. Ends stage line.rest) (sym (after_tree-more s 1 all.0 all.2)) ends))

pub read_end : (s : Shape) (items : List Item) → Ends (want_nodes s) items → ReadEnd s items
read_end s items h = end_from s items (first_line (want_nodes s) items (λ e. cc) h)
