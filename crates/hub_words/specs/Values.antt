-- The forms of the values that the words give.
use Rattle.std.specs.Prelude.{ℕ, ◌+◌, ◌-◌, ◌==◌, Bool, true, false, not, ◌&&◌, List, [], ◌∷◌, length, codes, bytes_eq, nat_le, ℤ, pos, Option, Some, None, option_map, option_and_then, if◌then◌else◌}
use Rattle.std.specs.List.{list_any, after_first, slice_split}
use Rattle.text_spec.specs.Numbers.{is_point, is_exponent_mark, count_value, decimal_value}
use Rattle.hub_spec.specs.Limits.{most_nodes, most_factor, most_length}
use Rattle.file_spec.specs.Limits.{most_cost_read, most_divisor}
use Rattle.file_spec.specs.Options.{Layout, cab_matrix, cab_rows, australia_post, Order, flow_first, distance_first, Tail, tail_ignored, tail_costs, HubNumber, said_number, listed_number}
use Rattle.hub_words.specs.Limits.{most_search_nodes, most_workers, most_seed, most_gap}
use Rattle.hub_words.specs.Requests.{SearchRule, node_by_node, by_rounds}

-- the layout of this name
abbrev pub layout_named : List ℕ → Option Layout
layout_named word =
    if bytes_eq word (codes "cab-matrix") then Some cab_matrix
    else if bytes_eq word (codes "cab-rows") then Some cab_rows
    else if bytes_eq word (codes "ap") then Some australia_post else None

-- the order of this name
abbrev pub order_named : List ℕ → Option Order
order_named word =
    if bytes_eq word (codes "flow-first") then Some flow_first
    else if bytes_eq word (codes "distance-first") then Some distance_first else None

-- the tail of this name
abbrev pub tail_named : List ℕ → Option Tail
tail_named word =
    if bytes_eq word (codes "ignore") then Some tail_ignored
    else if bytes_eq word (codes "fixed") then Some tail_costs else None

-- the order of the matrices, which only a file of two matrices lets choose
abbrev pub order_asked : Layout → Option (List ℕ) → Option Order
order_asked layout None = Some flow_first
order_asked cab_matrix (Some word) = order_named word
order_asked layout (Some word) = None

-- what the tail is, which only a file of Australia Post lets choose
abbrev pub tail_asked : Layout → Option (List ℕ) → Option Tail
tail_asked layout None = Some tail_ignored
tail_asked australia_post (Some word) = tail_named word
tail_asked layout (Some word) = None

-- by what distances are divided
abbrev pub divide_asked : Option (List ℕ) → Option ℕ
divide_asked None = Some 1
divide_asked (Some word) = count_value 1 most_divisor word

-- a number that is not negative and at most the limit
abbrev pub within : ℕ → Option ℤ → Option ℕ
within limit (Some (pos v)) = if nat_le v limit then Some v else None
within limit number = None

-- a decimal number within the limit, both in units of 10^-places
abbrev pub quantity : ℕ → ℕ → List ℕ → Option ℕ
quantity places limit word = within limit (decimal_value places word)

-- a value that need not be given
abbrev pub optional : {A : Type 0} → (List ℕ → Option A) → Option (List ℕ) → Option (Option A)
optional form None = Some None
optional form (Some word) = option_map (λ v. Some v) (form word)

-- a factor in 10^-3, at most 1000 units
abbrev pub factor_asked : Option (List ℕ) → Option (Option ℕ)
factor_asked = optional (quantity 3 most_factor)

-- a fixed cost of every node in 10^-6, at most 10^12 units
abbrev pub fixed_asked : Option (List ℕ) → Option (Option ℕ)
fixed_asked = optional (quantity 6 most_cost_read)

-- how long a route may be, in 10^-3, at most 3 * 10^7 units
abbrev pub longest_asked : Option (List ℕ) → Option (Option ℕ)
longest_asked = optional (quantity 3 most_length)

-- the number of hubs that a file lists, which only one of Australia Post does
abbrev pub listed_in : Layout → Option HubNumber
listed_in australia_post = Some listed_number
listed_in layout = None

-- a number of hubs, or the word for the one that the file lists
abbrev pub hub_number_named : Layout → List ℕ → Option HubNumber
hub_number_named layout word =
    if bytes_eq word (codes "file") then listed_in layout else option_map (λ n. said_number n) (count_value 1 most_nodes word)

-- the wanted number of hubs, where the words give one
abbrev pub hubs_asked : Layout → Option (List ℕ) → Option (Option HubNumber)
hubs_asked layout = optional (hub_number_named layout)

-- `,`
abbrev pub is_comma : ℕ → Bool
is_comma byte = byte == 44

-- a node before those that follow it in a list
abbrev pub node_before : ℕ → Option (List ℕ) → Option (List ℕ)
node_before k = option_map (λ nodes. k ∷ nodes)

-- numbers of nodes, each above the one before it, the first at least so much; nodes count from 0
unfoldable pub nodes_from : ℕ → List (List ℕ) → Option (List ℕ)
nodes_from least [] = Some []
nodes_from least (word ∷ words) = option_and_then (λ number. node_before (number - 1) (nodes_from (number + 1) words)) (count_value least most_nodes word)

-- the numbers of a list of candidates, separated by single commas
abbrev pub nodes_listed : List ℕ → Option (List ℕ)
nodes_listed word = nodes_from 1 (slice_split is_comma word)

-- the candidates, where they are given
abbrev pub candidates_asked : Option (List ℕ) → Option (Option (List ℕ))
candidates_asked = optional nodes_listed

-- the flag is set
abbrev pub is_set : Option (List ℕ) → Bool
is_set None = false
is_set (Some word) = bytes_eq word (codes "true")

-- how many nodes a search may have at most, where a number is given
abbrev pub nodes_asked : Option (List ℕ) → Option (Option ℕ)
nodes_asked = optional (count_value 1 most_search_nodes)

-- how many workers a search has, one where no number is given
abbrev pub workers_asked : Option (List ℕ) → Option ℕ
workers_asked None = Some 1
workers_asked (Some word) = count_value 1 most_workers word

-- no exponent, and at most so many digits behind the point: nothing is cut
abbrev pub has_places : ℕ → List ℕ → Bool
has_places most word = not (list_any is_exponent_mark word) && nat_le (length (after_first is_point word)) most

-- a gap of at most three decimals, in thousandths of a per cent
abbrev pub gap_named : List ℕ → Option ℕ
gap_named word = if has_places 3 word then quantity 3 most_gap word else None

-- how far the bound may be below the cost, in thousandths of a per cent of the cost; not at all where no gap is given
abbrev pub gap_asked : Option (List ℕ) → Option ℕ
gap_asked None = Some 0
gap_asked (Some word) = gap_named word

-- the rule of this name
abbrev pub rule_named : List ℕ → Option SearchRule
rule_named word = if bytes_eq word (codes "1") then Some node_by_node else if bytes_eq word (codes "2") then Some by_rounds else None

-- the rule of a search, node by node where none is given
abbrev pub rule_asked : Option (List ℕ) → Option SearchRule
rule_asked None = Some node_by_node
rule_asked (Some word) = rule_named word

-- whether this name stands for Pareto-optimal cuts
abbrev pub cuts_named : List ℕ → Option Bool
cuts_named word =
    if bytes_eq word (codes "minimal") then Some false else if bytes_eq word (codes "core") then Some true else None

-- whether the words ask for Pareto-optimal cuts; not where they say nothing of the cuts
abbrev pub core_cuts_asked : Option (List ℕ) → Option Bool
core_cuts_asked None = Some false
core_cuts_asked (Some word) = cuts_named word

-- the version of this name
abbrev pub version_named : List ℕ → Option ℕ
version_named word = if bytes_eq word (codes "1") then Some 1 else if bytes_eq word (codes "2") then Some 2 else None

-- the version of the certificate's text, the first where none is given; where routes are limited or a number of hubs is
-- wanted it is the second, the only one that has lines for it
abbrev pub version_asked : Bool → Option (List ℕ) → Option ℕ
version_asked false None = Some 1
version_asked false (Some word) = version_named word
version_asked true None = Some 2
version_asked true (Some word) = if bytes_eq word (codes "2") then Some 2 else None

-- the seed of a made instance
abbrev pub seed_asked : Option (List ℕ) → Option ℕ
seed_asked = option_and_then (count_value 0 most_seed)

-- the number of nodes of a made instance
abbrev pub size_asked : Option (List ℕ) → Option ℕ
size_asked = option_and_then (count_value 1 most_nodes)
