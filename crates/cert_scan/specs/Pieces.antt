-- The text of a certificate piece by piece: some bytes, and the item that is given once the last of them has come.
use Rattle.std.specs.Prelude.{◌≡◌, ℕ, ◌+◌, ◌-◌, true, false, List, [], ◌∷◌, ◌++◌, length, codes, map, flat_map, Option, Some, None, option_to_list, nat_eq, nat_le, decimal, if◌then◌else◌}
use Rattle.hub_spec.specs.Trees.{branch_on, leaf_of, no_hub, no_route, no_count}
use Rattle.core_spec.specs.CoreCuts.{Way}
use Rattle.cert_spec.specs.Stated.{Stated}
use Rattle.cert_spec.specs.Lines.{Item as Line, says_version, says_size, says_cost, says_bound, says_hubs, says_route, says_cuts, says_cut, says_marked, says_dual, says_proof, says_nodes, says_tree, says_end, keyword}
use Rattle.cert_spec.specs.Text.{certificate_items, certificate_text, line_bytes, Spells}
use Rattle.cert_spec.specs.Grammar.{Stage, want_version, Leads}
use Rattle.cert_scan.specs.Versions.{version_of}
use Rattle.cert_scan.specs.Parts.{none_left, items_of}
use Rattle.cert_scan.specs.declared.items.Item.{Item}
use Rattle.cert_scan.specs.declared.items.Item.TheVariants.{Version, Size, Cost, Bound, Hub, Route, Cuts, Cut, CoreHub, Dual, DualPair, Proof, ProofPair, Nodes, Branch, Leaf, LeafPair, Empty, Block, Count, End}

-- some bytes of a text, and the item that the last of them gives, if it gives one
pub record Piece : Type 0 where
  pub bytes : List ℕ
  pub tells : Option Item

-- ---- what each number of a line gives, once the byte behind it has come

-- the hubs of a plan
abbrev pub told_hubs : List ℕ → List (ℕ × Option Item)
told_hubs [] = []
told_hubs (k ∷ rest) = (k + 1, Some (Hub k (none_left rest))) ∷ told_hubs rest

-- the hubs of a mark
abbrev pub told_mark : List ℕ → List (ℕ × Option Item)
told_mark [] = []
told_mark (k ∷ rest) = (k + 1, Some (CoreHub k (none_left rest))) ∷ told_mark rest

-- the values of a dual, each behind its node
abbrev pub told_values : List (ℕ × ℕ) → List (ℕ × Option Item)
told_values [] = []
told_values (e ∷ rest) = (e.0 + 1, None) ∷ (e.1, Some (DualPair e.0 e.1 (none_left rest))) ∷ told_values rest

-- the ways of a proof, each by its nodes and how often it is taken
abbrev pub told_ways : List Way → List (ℕ × Option Item)
told_ways [] = []
told_ways (w ∷ rest) =
    (w.0 + 1, None) ∷ (w.1 + 1, None) ∷ (w.2, Some (ProofPair w.0 w.1 w.2 (none_left rest))) ∷ told_ways rest

-- the weights of a leaf, each behind its cut
abbrev pub told_weights : List (ℕ × ℕ) → List (ℕ × Option Item)
told_weights [] = []
told_weights (e ∷ rest) = (e.0, None) ∷ (e.1, Some (LeafPair e.0 e.1 (none_left rest))) ∷ told_weights rest

-- a cut's number, and its part where the line says one
abbrev pub told_cut : ℕ → Option ℕ → List (ℕ × Option Item)
told_cut number None = (number, Some (Cut number 1 true)) ∷ []
told_cut number (Some part) = (number, None) ∷ (part, Some (Cut number part true)) ∷ []

-- how many commodities a run has, where it has more than one
abbrev pub told_run : ℕ → List (ℕ × Option Item)
told_run run = if nat_eq run 1 then [] else (run, None) ∷ []

-- the numbers of a line, in their order; of a marked cut those before its mark
abbrev pub told_numbers : Line → List (ℕ × Option Item)
told_numbers (says_version v) = (v, Some (Version (version_of v))) ∷ []
told_numbers (says_size n q) = (n, None) ∷ (q, Some (Size n q)) ∷ []
told_numbers (says_cost c) = (c, Some (Cost c)) ∷ []
told_numbers (says_bound b) = (b, Some (Bound b)) ∷ []
told_numbers (says_hubs hubs) = told_hubs hubs
told_numbers (says_route commodity route) =
    (commodity.0 + 1, None)
    ∷ (commodity.1 + 1, None)
    ∷ (route.0 + 1, None)
    ∷ (route.1 + 1, Some (Route commodity.0 commodity.1 route.0 route.1))
    ∷ []
told_numbers (says_cuts all) = (all, Some (Cuts all)) ∷ []
told_numbers (says_cut number part) = told_cut number part
told_numbers (says_marked number part hubs) = (number, None) ∷ (part, Some (Cut number part false)) ∷ []
told_numbers (says_dual commodity run dual) =
    (commodity.0 + 1, None)
    ∷ (commodity.1 + 1, None)
    ∷ (told_run run
    ++ (dual.a, Some (Dual commodity.0 commodity.1 run dual.a (none_left dual.u)))
    ∷ told_values dual.u)
told_numbers (says_proof proof) =
    (proof.turns, None)
    ∷ (proof.scale, Some (Proof proof.turns proof.scale (none_left proof.ways)))
    ∷ told_ways proof.ways
told_numbers (says_nodes all) = (all, Some (Nodes all)) ∷ []
told_numbers (says_tree (branch_on k)) = (k + 1, Some (Branch k)) ∷ []
told_numbers (says_tree (leaf_of denom weights)) = (denom, Some (Leaf denom (none_left weights))) ∷ told_weights weights
told_numbers (says_tree no_hub) = []
told_numbers (says_tree (no_route commodity)) =
    (commodity.0 + 1, None) ∷ (commodity.1 + 1, Some (Block commodity.0 commodity.1)) ∷ []
told_numbers (says_tree no_count) = []
told_numbers says_end = []

-- a line without numbers gives its item by its keyword
abbrev pub told_keyword : Line → Option Item
told_keyword (says_tree no_hub) = Some Empty
told_keyword (says_tree no_count) = Some Count
told_keyword says_end = Some End
told_keyword line = None

-- ---- pieces

-- the byte behind a word: a line feed where no number is left, and else a space
abbrev pub byte_behind : List (ℕ × Option Item) → ℕ
byte_behind rest = if none_left rest then 10 else 32

-- a word with the byte behind it
abbrev pub word_piece : List ℕ → List (ℕ × Option Item) → Option Item → Piece
word_piece word rest tells = record { bytes = word ++ byte_behind rest ∷ []; tells = tells }

-- numbers, each with the byte behind it
abbrev pub number_pieces : List (ℕ × Option Item) → List Piece
number_pieces [] = []
number_pieces (t ∷ rest) = word_piece (decimal t.0) rest t.1 ∷ number_pieces rest

-- a word with a space behind it, and a number
abbrev pub spaced : List ℕ → Option Item → Piece
spaced word tells = record { bytes = word ++ 32 ∷ []; tells = tells }

abbrev pub spaced_number : ℕ × Option Item → Piece
spaced_number t = spaced (decimal t.0) t.1

-- the pieces of a mark: its word, which tells nothing, and its hubs
abbrev pub mark_pieces : List ℕ → List Piece
mark_pieces hubs = word_piece (codes "core") (told_mark hubs) None ∷ number_pieces (told_mark hubs)

-- the pieces of a line: its keyword, and its numbers; and a mark
abbrev pub pieces_of : Line → List Piece
pieces_of (says_marked number part hubs) =
    spaced (codes "cut") None ∷ (map spaced_number (told_numbers (says_marked number part hubs)) ++ mark_pieces hubs)
pieces_of line = word_piece (keyword line) (told_numbers line) (told_keyword line) ∷ number_pieces (told_numbers line)

-- of the text of a certificate
abbrev pub certificate_pieces : Stated → List Piece
certificate_pieces k = flat_map pieces_of (certificate_items k)

-- all bytes of some pieces
abbrev pub bytes_of : List Piece → List ℕ
bytes_of pieces = flat_map (λ (p : Piece). p.bytes) pieces

-- all items that they tell
abbrev pub told_by : List Piece → List Item
told_by pieces = flat_map (λ (p : Piece). option_to_list p.tells) pieces

-- the pieces are the text of the certificate, and tell its items
pub record ArePieces (k : Stated) : Type 0 where
  pub text : bytes_of (certificate_pieces k) ≡ certificate_text k
  pub items : told_by (certificate_pieces k) ≡ items_of k

-- and so it is with each certificate
abbrev pub PiecesAreText : Type 0
PiecesAreText = (k : Stated) → ArePieces k

-- ---- what has come

-- the first pieces, as many as lie whole within so many bytes
abbrev pub whole_within : ℕ → List Piece → List Piece
whole_within count [] = []
whole_within count (p ∷ rest) =
    if nat_le (length p.bytes) count then p ∷ whole_within (count - length p.bytes) rest else []

-- the items given are exactly those of the pieces whose last byte has come. This holds where the bytes begin lines in
-- an order that the grammar allows, and so where they begin the text of a certificate
pub record AreOnTime (bytes : List ℕ) (given : List Item) : Type 0 where
  pub of_lines : (lines : List Line) (stage : Stage) (rest : List ℕ) → Leads want_version lines stage
      → bytes ++ rest ≡ flat_map line_bytes lines
      → given ≡ told_by (whole_within (length bytes) (flat_map pieces_of lines))
  pub of_certificate : (k : Stated) (rest : List ℕ) → Spells (bytes ++ rest) k
      → given ≡ told_by (whole_within (length bytes) (certificate_pieces k))
