-- The lines of a demonstration, each with its words.
use Rattle.std.specs.Prelude.{ℕ, ◌+◌, List, [], ◌∷◌, map, flat_map, codes, decimal}
use Rattle.text_spec.specs.Fixed.{fixed_text}
use Rattle.hub_make.specs.Texts.{line_text}

-- a node is printed by its number, counted from 1
abbrev pub node_word : ℕ → List ℕ
node_word k = decimal (k + 1)

-- the words of the line of the hubs
abbrev pub hubs_words : List ℕ → List (List ℕ)
hubs_words hubs = codes "hubs" ∷ map node_word hubs

-- the lines: the number of nodes of the instance, the cost of the plan and the bound with 12 decimals, the plan's hubs,
-- and the number of nodes of the search
abbrev pub demo_lines : ℕ → ℕ → ℕ → List ℕ → ℕ → List (List (List ℕ))
demo_lines size cost bound hubs nodes =
    (codes "size" ∷ decimal size ∷ [])
    ∷ (codes "cost" ∷ fixed_text 12 cost ∷ [])
    ∷ (codes "bound" ∷ fixed_text 12 bound ∷ [])
    ∷ hubs_words hubs
    ∷ (codes "nodes" ∷ decimal nodes ∷ [])
    ∷ []

-- the text: the words of a line have one space between them, and each line ends with a line feed
unfoldable pub demo_text : ℕ → ℕ → ℕ → List ℕ → ℕ → List ℕ
demo_text size cost bound hubs nodes = flat_map line_text (demo_lines size cost bound hubs nodes)

-- a node behind a space
abbrev pub node_behind_space : ℕ → List ℕ
node_behind_space k = 32 ∷ node_word k
