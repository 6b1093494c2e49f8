-- The reading of one line, as a function: what a line says at a stage of the text, if it may stand there.
use Rattle.std.specs.Prelude.{◌≡◌, ℕ, zero, suc, ◌+◌, ◌-◌, ◌*◌, ◌%◌, ◌^◌, ◌<◌, ◌≤◌, ◌↔◌, Bool, true, false, not, ◌&&◌, ◌||◌, List, [], ◌∷◌, length, map, codes, Option, Some, None, option_map, option_and_then, slice_index, nat_eq, nat_lt, nat_le, bytes_eq, if◌then◌else◌}
use Rattle.std.specs.List.{slice_split, list_all}
use Rattle.std.specs.Option.{option_zip}
use Rattle.std.specs.Str.{all_ascii_digits}
use Rattle.std.specs.Str.Parse.{digits_value}
use Rattle.hub_spec.specs.Limits.{most_nodes, most_part, most_denominator, most_cuts, most_tree_lines}
use Rattle.hub_spec.specs.Problem.{commodity_at}
use Rattle.hub_spec.specs.Cuts.{Prices}
use Rattle.core_spec.specs.CoreCuts.{Way, CoreProof}
use Rattle.core_spec.specs.MarkRanges.{most_turns, most_scale, most_taken}
use Rattle.hub_spec.specs.Trees.{TreeLine, branch_on, leaf_of, no_hub, no_route, no_count}
use Rattle.cert_spec.specs.Stated.{IsThird}
use Rattle.cert_spec.specs.Text.{same_prices}
use Rattle.cert_spec.specs.Lines.{Item, says_version, says_size, says_cost, says_bound, says_hubs, says_route, says_cuts, says_cut, says_marked, says_dual, says_proof, says_nodes, says_tree, says_end}
use Rattle.cert_spec.specs.Grammar.{Stage, want_version, want_size, want_end, want_nothing, want_cost, want_bound, want_hubs, want_cuts, want_nodes, want_route, want_cut, want_dual, want_proved, want_proof, want_tree, Shape, places_after, IsVersion, IsLine}

-- decimal digits, at least one and at most 33, and no zero in front of another digit
abbrev pub is_number : List ℕ → Bool
is_number word =
    all_ascii_digits word && (nat_le (length word) 33 && (nat_lt 48 (slice_index word 0) || nat_eq (length word) 1))

-- the number that a word spells
unfoldable pub number_of : List ℕ → Option ℕ
number_of word = if is_number word then Some (digits_value 10 word) else None

-- what f makes of each element, if it makes something of all
abbrev pub each_of : {X Y : Type 0} → (X → Option Y) → List X → Option (List Y)
each_of f [] = Some []
each_of f (x ∷ xs) = option_and_then (λ y. option_map (λ ys. y ∷ ys) (each_of f xs)) (f x)

-- the numbers that words spell
abbrev pub numbers_of : List (List ℕ) → Option (List ℕ)
numbers_of words = each_of number_of words

-- the node that a line names by this number
abbrev pub node_of : ℕ → Option ℕ
node_of zero = None
node_of (suc k) = Some k

-- the numbers two by two
abbrev pub pairs_of : List ℕ → Option (List (ℕ × ℕ))
pairs_of [] = Some []
pairs_of (a ∷ []) = None
pairs_of (a ∷ b ∷ rest) = option_map (λ pairs. (a, b) ∷ pairs) (pairs_of rest)

-- a node and its value
abbrev pub value_of : ℕ × ℕ → Option (ℕ × ℕ)
value_of e = option_map (λ k. (k, e.1)) (node_of e.0)

-- the values that a dual lists
abbrev pub values_of : List ℕ → Option (List (ℕ × ℕ))
values_of numbers = option_and_then (each_of value_of) (pairs_of numbers)

-- a line with no number
abbrev pub bare_item : Item → List ℕ → Option Item
bare_item item [] = Some item
bare_item item other = None

-- a line with one number
abbrev pub number_item : (ℕ → Item) → List ℕ → Option Item
number_item item (n ∷ []) = Some (item n)
number_item item other = None

-- the number of nodes, and of candidates
abbrev pub size_item : List ℕ → Option Item
size_item (n ∷ q ∷ []) = Some (says_size n q)
size_item other = None

-- the nodes that are hubs
abbrev pub hubs_item : List ℕ → Option Item
hubs_item numbers = option_map says_hubs (each_of node_of numbers)

-- the nodes of a commodity, and the hubs of its route
abbrev pub route_of_nodes : List ℕ → Option Item
route_of_nodes (i ∷ j ∷ k ∷ m ∷ []) = Some (says_route (i, j) (k, m))
route_of_nodes other = None

-- a commodity and its route
abbrev pub route_item : List ℕ → Option Item
route_item numbers = option_and_then route_of_nodes (each_of node_of numbers)

-- a cut's number, and perhaps its part
abbrev pub cut_item : List ℕ → Option Item
cut_item (number ∷ []) = Some (says_cut number None)
cut_item (number ∷ part ∷ []) = Some (says_cut number (Some part))
cut_item other = None

-- a commodity, its price, and values, for a run of so many
abbrev pub run_item : ℕ → List ℕ → Option Item
run_item run (i ∷ j ∷ a ∷ rest) =
    option_and_then (λ commodity. option_map (λ u. says_dual commodity run (record { a = a; u = u })) (values_of rest))
    (option_zip (node_of i) (node_of j))
run_item run other = None

-- one commodity, with its price and values
abbrev pub dual_item : List ℕ → Option Item
dual_item numbers = run_item 1 numbers

-- a run of more than one
abbrev pub duals_item : List ℕ → Option Item
duals_item (i ∷ j ∷ run ∷ rest) = if nat_eq run 1 then None else run_item run (i ∷ j ∷ rest)
duals_item other = None

-- the numbers three by three
abbrev pub triples_of : List ℕ → Option (List (ℕ × ℕ × ℕ))
triples_of [] = Some []
triples_of (a ∷ []) = None
triples_of (a ∷ b ∷ []) = None
triples_of (a ∷ b ∷ c ∷ rest) = option_map (λ triples. (a, b, c) ∷ triples) (triples_of rest)

-- the nodes of a way, and how often it is taken
abbrev pub way_of : ℕ × ℕ × ℕ → Option Way
way_of t = option_map (λ (nodes : ℕ × ℕ). (nodes.0, nodes.1, t.2)) (option_zip (node_of t.0) (node_of t.1))

-- the turns, the scale and the ways of a proof
abbrev pub proof_item : List ℕ → Option Item
proof_item (turns ∷ scale ∷ rest) =
    option_map (λ (ways : List Way). says_proof (record { turns = turns; scale = scale; ways = ways }))
    (option_and_then (each_of way_of) (triples_of rest))
proof_item other = None

-- the node of a branch
abbrev pub branch_item : List ℕ → Option Item
branch_item (k ∷ []) = option_map (λ m. says_tree (branch_on m)) (node_of k)
branch_item other = None

-- the commodity that has no route
abbrev pub block_item : List ℕ → Option Item
block_item (i ∷ j ∷ []) = option_map (λ c. says_tree (no_route c)) (option_zip (node_of i) (node_of j))
block_item other = None

-- the denominator and the weights of a leaf
abbrev pub leaf_item : List ℕ → Option Item
leaf_item (denom ∷ rest) = option_map (λ weights. says_tree (leaf_of denom weights)) (pairs_of rest)
leaf_item other = None

-- each keyword, with how the numbers after it are read
abbrev pub readers : List (List ℕ × (List ℕ → Option Item))
readers =
    (codes "HUBCERT", number_item says_version)
    ∷ (codes "size", size_item)
    ∷ (codes "cost", number_item says_cost)
    ∷ (codes "bound", number_item says_bound)
    ∷ (codes "hubs", hubs_item)
    ∷ (codes "route", route_item)
    ∷ (codes "cuts", number_item says_cuts)
    ∷ (codes "cut", cut_item)
    ∷ (codes "dual", dual_item)
    ∷ (codes "duals", duals_item)
    ∷ (codes "proof", proof_item)
    ∷ (codes "nodes", number_item says_nodes)
    ∷ (codes "branch", branch_item)
    ∷ (codes "leaf", leaf_item)
    ∷ (codes "empty", bare_item (says_tree no_hub))
    ∷ (codes "block", block_item)
    ∷ (codes "count", bare_item (says_tree no_count))
    ∷ (codes "end", bare_item says_end)
    ∷ []

-- what the first reader of this keyword makes of the numbers
abbrev pub read_by : List (List ℕ × (List ℕ → Option Item)) → List ℕ → List ℕ → Option Item
read_by [] keyword numbers = None
read_by (r ∷ rest) keyword numbers = if bytes_eq r.0 keyword then r.1 numbers else read_by rest keyword numbers

-- what a keyword and the numbers after it say
unfoldable pub item_of : List ℕ → List ℕ → Option Item
item_of keyword numbers = read_by readers keyword numbers

-- a marked cut, by its number and its part, and the numbers of its hubs
abbrev pub marked_item : List ℕ → List ℕ → Option Item
marked_item (number ∷ part ∷ []) hubs = option_map (λ nodes. says_marked number part nodes) (each_of node_of hubs)
marked_item other hubs = None

-- the words of a line begin a marked cut: its fourth word is the one before the hubs
abbrev pub is_marked : List (List ℕ) → Bool
is_marked (keyword ∷ number ∷ part ∷ word ∷ hubs) = bytes_eq (codes "cut") keyword && bytes_eq (codes "core") word
is_marked words = false

-- what the words of a marked cut say
abbrev pub marked_of_words : List (List ℕ) → Option Item
marked_of_words (keyword ∷ number ∷ part ∷ word ∷ hubs) =
    option_and_then (λ numbers. option_and_then (marked_item numbers) (numbers_of hubs)) (numbers_of (number ∷ part ∷ []))
marked_of_words words = None

-- what the words of any other line say
abbrev pub plain_of_words : List (List ℕ) → Option Item
plain_of_words [] = None
plain_of_words (keyword ∷ words) = option_and_then (item_of keyword) (numbers_of words)

-- what the words of a line say
abbrev pub item_of_words : List (List ℕ) → Option Item
item_of_words words = if is_marked words then marked_of_words words else plain_of_words words

-- a number of at most 30 digits
abbrev pub is_short : ℕ → Bool
is_short n = nat_lt n (10 ^ 30)

-- what a price or a value may be
abbrev pub is_amount : ℕ → Bool
is_amount n = nat_lt n (10 ^ 33)

-- each number is below the one after it
abbrev pub ascends : List ℕ → Bool
ascends [] = true
ascends (x ∷ []) = true
ascends (x ∷ y ∷ rest) = nat_lt x y && ascends (y ∷ rest)

-- the same pair
abbrev pub same_pair : ℕ × ℕ → ℕ × ℕ → Bool
same_pair a b = nat_eq a.0 b.0 && nat_eq a.1 b.1

-- a dual that a line can list
abbrev pub is_dual_text : ℕ → Prices → Bool
is_dual_text n dual =
    is_amount dual.a
    && (ascends (map (λ (e : ℕ × ℕ). e.0) dual.u)
    && list_all (λ (e : ℕ × ℕ). nat_lt e.0 n && (nat_le 1 e.1 && is_amount e.1)) dual.u)

-- weights that a line can list
abbrev pub is_weights_text : List (ℕ × ℕ) → Bool
is_weights_text weights =
    ascends (map (λ (e : ℕ × ℕ). e.0) weights)
    && list_all (λ (e : ℕ × ℕ). nat_le 1 e.0 && (is_short e.0 && (nat_le 1 e.1 && is_short e.1))) weights

-- what a tree line can say
abbrev pub is_tree_line_text : ℕ → TreeLine → Bool
is_tree_line_text n (branch_on k) = nat_lt k n
is_tree_line_text n (leaf_of denom weights) = nat_le 1 denom && (nat_le denom most_denominator && is_weights_text weights)
is_tree_line_text n no_hub = true
is_tree_line_text n (no_route commodity) = nat_lt commodity.0 n && nat_lt commodity.1 n
is_tree_line_text n no_count = true

-- a version after the first; the third
abbrev pub is_later : ℕ → Bool
is_later v = nat_eq v 2 || nat_eq v 3

abbrev pub is_third : ℕ → Bool
is_third v = nat_eq v 3

-- a version that there is, and a part, a dual and a tree line that the version can say
abbrev pub is_version : ℕ → Bool
is_version v = nat_eq v 1 || is_later v

abbrev pub is_part : ℕ → Option ℕ → Bool
is_part v None = nat_eq v 1
is_part v (Some e) = is_later v && (nat_le 1 e && nat_le e most_part)

-- the hubs of a mark
abbrev pub are_mark_hubs : ℕ → List ℕ → Bool
are_mark_hubs n hubs = nat_le 1 (length hubs) && (ascends hubs && list_all (λ k. nat_lt k n) hubs)

-- the part and the hubs of a marked cut
abbrev pub is_marking : Shape → ℕ → List ℕ → Bool
is_marking s part hubs = is_third s.version && (nat_le 1 part && (nat_le part most_part && are_mark_hubs s.size hubs))

-- the first way's nodes come before the second's
abbrev pub way_before : Way → Way → Bool
way_before v w = nat_lt v.0 w.0 || (nat_eq v.0 w.0 && nat_lt v.1 w.1)

-- each way comes before the one after it
abbrev pub ways_ascend : List Way → Bool
ways_ascend [] = true
ways_ascend (v ∷ []) = true
ways_ascend (v ∷ w ∷ rest) = way_before v w && ways_ascend (w ∷ rest)

-- a way that a line can list
abbrev pub is_way_text : ℕ → Way → Bool
is_way_text n w = nat_le w.0 w.1 && (nat_lt w.1 n && (nat_le 1 w.2 && nat_le w.2 most_taken))

-- a proof that a line can say
abbrev pub is_proof_text : ℕ → CoreProof → Bool
is_proof_text n proof =
    nat_le proof.turns most_turns
    && (nat_le 1 proof.scale && (nat_le proof.scale most_scale && (ways_ascend proof.ways && list_all (is_way_text n) proof.ways)))

abbrev pub is_first_dual : Prices → Bool
is_first_dual dual = is_short dual.a && list_all (λ (e : ℕ × ℕ). is_short e.1) dual.u

abbrev pub is_first_line : TreeLine → Bool
is_first_line (branch_on k) = true
is_first_line (leaf_of denom weights) = true
is_first_line no_hub = true
is_first_line (no_route commodity) = false
is_first_line no_count = false

-- a run that the version can say
abbrev pub is_run : Shape → ℕ → ℕ → Bool
is_run s t run = nat_le 1 run && (nat_le (t % s.size + run) s.size && (not (nat_eq s.version 1) || nat_eq run 1))

-- another dual than the one before
abbrev pub is_other : Option Prices → Prices → Bool
is_other None dual = true
is_other (Some before) dual = not (same_prices before dual)

-- no more places than lines are left, and no line is left where no place is
abbrev pub is_open : ℕ → ℕ → Bool
is_open places left = nat_le places left && (not (nat_eq places 0) || nat_eq left 0)

-- the line may stand at this stage
abbrev pub wants : Stage → Item → Bool
wants want_version (says_version v) = is_version v
wants (want_size v) (says_size n q) = nat_le 1 n && (nat_le n most_nodes && (nat_le 1 q && nat_le q n))
wants (want_cost s) (says_cost c) = is_short c
wants (want_bound s) (says_bound b) = is_short b
wants (want_hubs s) (says_hubs hubs) =
    nat_le 1 (length hubs) && (ascends hubs && list_all (λ k. nat_lt k s.size) hubs)
wants (want_route s t) (says_route commodity route) =
    same_pair commodity (commodity_at s.size t) && (nat_lt route.0 s.size && nat_lt route.1 s.size)
wants (want_cuts s) (says_cuts all) = nat_le all most_cuts
wants (want_cut s all x) (says_cut number part) = nat_eq number (x + 1) && is_part s.version part
wants (want_dual s all x t before) (says_dual commodity run dual) =
    same_pair commodity (commodity_at s.size t)
    && (is_run s t run
    && (is_dual_text s.size dual && ((not (nat_eq s.version 1) || is_first_dual dual) && is_other before dual)))
wants (want_cut s all x) (says_marked number part hubs) = nat_eq number (x + 1) && is_marking s part hubs
wants (want_proved s all x t) (says_dual commodity run dual) =
    same_pair commodity (commodity_at s.size t) && (nat_eq run 1 && is_dual_text s.size dual)
wants (want_proof s all x t) (says_proof proof) = is_proof_text s.size proof
wants (want_nodes s) (says_nodes all) = nat_le 1 all && nat_le all most_tree_lines
wants (want_tree s places left) (says_tree line) =
    is_tree_line_text s.size line
    && ((not (nat_eq s.version 1) || is_first_line line) && is_open (places_after places line) (left - 1))
wants want_end says_end = true
wants stage item = false

-- the item, if it may stand at this stage
abbrev pub if_wanted : Stage → Item → Option Item
if_wanted stage item = if wants stage item then Some item else None

-- what the line, without its line feed, says, if it may stand at this stage
unfoldable pub wanted_item : Stage → List ℕ → Option Item
wanted_item stage line = option_and_then (if_wanted stage) (item_of_words (slice_split (λ b. nat_eq b 32) line))

-- the number of nodes is within its range
abbrev pub IsSize : ℕ → Type 0
IsSize n = (1 ≤ n) × (n ≤ most_nodes)

-- not all cuts stand already
abbrev pub IsCutPlace : ℕ → ℕ → Type 0
IsCutPlace all x = (x < all) × (all ≤ most_cuts)

-- and the version is one
abbrev pub IsShape : Shape → Type 0
IsShape s = IsSize s.size × IsVersion s.version

-- a stage that lines can lead to: its numbers are within their ranges
abbrev pub IsStage : Stage → Type 0
IsStage want_version = Unit {0}
IsStage (want_size v) = IsVersion v
IsStage want_end = Unit {0}
IsStage want_nothing = Unit {0}
IsStage (want_cost s) = IsShape s
IsStage (want_bound s) = IsShape s
IsStage (want_hubs s) = IsShape s
IsStage (want_cuts s) = IsShape s
IsStage (want_nodes s) = IsShape s
IsStage (want_route s t) = IsShape s × (t < s.size * s.size)
IsStage (want_cut s all x) = IsShape s × IsCutPlace all x
IsStage (want_dual s all x t before) = IsShape s × IsCutPlace all x × (t < s.size * s.size)
IsStage (want_proved s all x t) = IsShape s × IsThird s.version × IsCutPlace all x × (t < s.size * s.size)
IsStage (want_proof s all x t) = IsShape s × IsThird s.version × IsCutPlace all x × (t < s.size * s.size)
IsStage (want_tree s places left) = IsShape s

-- at a stage a line is read as an item exactly where it is a line that may stand there and says this
abbrev pub LinesReadBack : Type 0
LinesReadBack = (stage : Stage) (line : List ℕ) (item : Item) → IsStage stage
    → (wanted_item stage line ≡ Some item) ↔ IsLine stage line item
