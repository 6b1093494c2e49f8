-- The text of a made-up instance: its lines, each with its words.
use Rattle.std.specs.Prelude.{ℕ, List, [], ◌∷◌, ◌++◌, map, flat_map, codes, decimal}
use Rattle.std.specs.List.{join_with_byte}
use Rattle.hub_make.specs.Numbers.{nodes, made_x, made_y, made_flow, made_cost}

-- numbers in decimal
abbrev pub number_words : List ℕ → List (List ℕ)
number_words numbers = map decimal numbers

-- the words of the line of node i's coordinates
abbrev pub coordinate_words : ℕ → ℕ → List (List ℕ)
coordinate_words seed i = number_words (made_x seed i ∷ made_y seed i ∷ [])

-- the words of the line of the flows from node i
abbrev pub flow_words : ℕ → ℕ → ℕ → List (List ℕ)
flow_words seed size i = number_words (map (made_flow seed i) (nodes size))

-- the words of the line of fixed costs
abbrev pub cost_words : ℕ → ℕ → List (List ℕ)
cost_words seed size = number_words (map (made_cost seed size) (nodes size))

-- the lines: the number of nodes, coordinates, flows, the listed number of hubs, the factors of collection, trunk and
-- delivery, and the fixed costs
abbrev pub made_lines : ℕ → ℕ → List (List (List ℕ))
made_lines seed size =
    number_words (size ∷ [])
    ∷ (map (coordinate_words seed) (nodes size)
    ++ (map (flow_words seed size) (nodes size)
    ++ (codes "1" ∷ [])
    ∷ (codes "3" ∷ [])
    ∷ (codes "0.75" ∷ [])
    ∷ (codes "2" ∷ [])
    ∷ cost_words seed size
    ∷ []))

-- a line: its words with one space between them, and a line feed
abbrev pub line_text : List (List ℕ) → List ℕ
line_text words = join_with_byte 32 words ++ 10 ∷ []

-- the text
unfoldable pub made_text : ℕ → ℕ → List ℕ
made_text seed size = flat_map line_text (made_lines seed size)
