-- Lines made word by word, and the text line by line.
use Rattle.std.proofs.Common.{◌≡◌, ℕ, ◌+◌, ◌<◌, ◌≤◌, List, [], ◌∷◌, ◌++◌, map, flat_map, length, get_or, drop, codes, decimal, sym, ap, ◌∙◌, append_assoc, append-nil}
use Rattle.std.specs.List.{join_with_byte}
use Rattle.std.proofs.lemmas.List.{at_drop_more, at_drop_all}
use Rattle.text_spec.specs.Fixed.{fixed_text}
use Rattle.hub_make.specs.Texts.{line_text}
use Rattle.hub_make.specs.DemoTexts.{node_word, hubs_words, node_behind_space, demo_text}

-- a line of two words
pub two_words : (keyword value : List ℕ) → keyword ++ (32 ∷ (value ++ (10 ∷ []))) ≡ line_text (keyword ∷ value ∷ [])
two_words keyword value = sym (append_assoc keyword (32 ∷ value) (10 ∷ []))

nodes_joined : (word hubs : List ℕ) → join_with_byte 32 (word ∷ map node_word hubs) ≡ word ++ flat_map node_behind_space hubs
nodes_joined word [] = sym (append-nil word)
nodes_joined word (k ∷ hubs) = ap (λ words. word ++ (32 ∷ words)) (nodes_joined (node_word k) hubs)

-- the line of the hubs
pub hubs_line : (hubs : List ℕ) → codes "hubs" ++ (flat_map node_behind_space hubs ++ (10 ∷ [])) ≡ line_text (hubs_words hubs)
hubs_line hubs =
    sym (append_assoc (codes "hubs") (flat_map node_behind_space hubs) (10 ∷ []))
    ∙ ap (λ words. words ++ (10 ∷ [])) (sym (nodes_joined (codes "hubs") hubs))

-- nodes from the i-th on
pub next_node : (nodes : List ℕ) (i : ℕ) → i < length nodes
    → node_behind_space (get_or nodes i 0) ++ flat_map node_behind_space (drop (i + 1) nodes) ≡ flat_map node_behind_space (drop i nodes)
next_node nodes i h = sym (at_drop_more (flat_map node_behind_space) nodes i 0 h)

pub no_node : (nodes : List ℕ) (i : ℕ) → length nodes ≤ i → [] ≡ flat_map node_behind_space (drop i nodes)
no_node nodes i h = sym (at_drop_all (flat_map node_behind_space) nodes i h)

-- the five lines
pub whole_text : (size cost bound : ℕ) (hubs : List ℕ) (nodes : ℕ)
    → line_text (codes "size" ∷ decimal size ∷ [])
    ++ (line_text (codes "cost" ∷ fixed_text 12 cost ∷ [])
    ++ (line_text (codes "bound" ∷ fixed_text 12 bound ∷ [])
    ++ (line_text (hubs_words hubs)
    ++ line_text (codes "nodes" ∷ decimal nodes ∷ []))))
    ≡ demo_text size cost bound hubs nodes
unfolding demo_text
whole_text size cost bound hubs nodes =
    let last = line_text (codes "nodes" ∷ decimal nodes ∷ []) in
    ap (λ text. line_text (codes "size" ∷ decimal size ∷ [])
    ++ (line_text (codes "cost" ∷ fixed_text 12 cost ∷ [])
    ++ (line_text (codes "bound" ∷ fixed_text 12 bound ∷ [])
    ++ (line_text (hubs_words hubs) ++ text)))) (sym (append-nil last))
