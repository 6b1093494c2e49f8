-- What the words of a command line ask for. They include the program's name as the first.
use Rattle.std.specs.Prelude.{ℕ, Bool, true, false, ◌&&◌, ◌||◌, not, List, codes, bytes_eq, Option, Some, None, option_map, option_and_then, is_some, if◌then◌else◌}
use Rattle.clap.specs.Words.{Row, Text, first_of}
use Rattle.file_spec.specs.Options.{Layout, Order, Tail, tail_ignored, tail_costs, HubNumber, Options}
use Rattle.hub_words.specs.Requests.{Source, Search, Solving, Making, SearchRule, node_by_node, by_core_cuts, by_rounds, How, follow, again, freely, Request, solve, check, report, make, demo, is_limited}
use Rattle.hub_words.specs.Values.{layout_named, order_asked, tail_asked, divide_asked, factor_asked, fixed_asked, longest_asked, hubs_asked, candidates_asked, is_set, nodes_asked, workers_asked, gap_asked, rule_asked, core_cuts_asked, version_asked, seed_asked, size_asked}
use Rattle.hub_words.specs.Parses.{parsed}

-- the value that the words give to the argument of this name
unfoldable pub given : List Row → Text → Option Text
given rows name = first_of name rows

-- three factors, where each is within its form
abbrev pub three : Option (Option ℕ) → Option (Option ℕ) → Option (Option ℕ) → Option (Option ℕ × Option ℕ × Option ℕ)
three (Some collect) (Some trunk) (Some deliver) = Some (collect, trunk, deliver)
three collect trunk deliver = None

-- the factors for collection, trunk and delivery
abbrev pub factors_asked : List Row → Option (Option ℕ × Option ℕ × Option ℕ)
factors_asked rows =
    three (factor_asked (given rows (codes "collect"))) (factor_asked (given rows (codes "trunk"))) (factor_asked (given rows (codes "deliver")))

-- the longest route and the number of hubs; no request has both
abbrev pub limits_from : Option (Option ℕ) → Option (Option HubNumber) → Option (Option ℕ × Option HubNumber)
limits_from (Some longest) (Some hubs) = if is_some longest && is_some hubs then None else Some (longest, hubs)
limits_from longest hubs = None

-- those that the words ask for
abbrev pub limits_asked : Layout → List Row → Option (Option ℕ × Option HubNumber)
limits_asked layout rows =
    limits_from (longest_asked (given rows (codes "max-length"))) (hubs_asked layout (given rows (codes "hubs")))

-- the options but for the candidates, where each is within its form
abbrev pub settled : Option Order → Option Tail → Option ℕ → Option (Option ℕ × Option ℕ × Option ℕ) → Option (Option ℕ)
    → Option (Option ℕ × Option HubNumber) → Bool → Option Options
settled (Some order) (Some tail) (Some divide) (Some factors) (Some fixed) (Some limits) no_self = Some (record {
  order = order;
  tail = tail;
  divide = divide;
  collect = factors.0;
  trunk = factors.1;
  deliver = factors.2;
  fixed = fixed;
  candidates = None;
  no_self = no_self;
  longest = limits.0;
  hubs = limits.1;
})
settled order tail divide factors fixed limits no_self = None

-- the options but for the candidates
abbrev pub settings_asked : Layout → List Row → Option Options
settings_asked layout rows =
    settled (order_asked layout (given rows (codes "order"))) (tail_asked layout (given rows (codes "tail")))
    (divide_asked (given rows (codes "divide"))) (factors_asked rows) (fixed_asked (given rows (codes "fixed")))
    (limits_asked layout rows) (is_set (given rows (codes "no-self")))

-- at most one of the file's tail, one cost for all nodes and a costs file gives the fixed costs
abbrev pub is_one_source : Tail → Option ℕ → Option Text → Bool
is_one_source tail_ignored fixed costs = not (is_some fixed) || not (is_some costs)
is_one_source tail_costs fixed costs = not (is_some fixed) && not (is_some costs)

-- the options, where their fixed costs have one source at most
abbrev pub sourced : Option Text → Option Options → Option Options
sourced costs (Some o) = if is_one_source o.tail o.fixed costs then Some o else None
sourced costs None = None

-- the options with the candidates
abbrev pub with_candidates : Option Options → Option (Option (List ℕ)) → Option Options
with_candidates (Some o) (Some candidates) = Some (record o { candidates = candidates })
with_candidates o candidates = None

-- the instance options, where they are lawful together
abbrev pub options_asked : Layout → List Row → Option Options
options_asked layout rows =
    with_candidates (sourced (given rows (codes "costs")) (settings_asked layout rows)) (candidates_asked (given rows (codes "candidates")))

-- the instance of a file of this layout
abbrev pub source_of_file : List Row → Layout → Text → Option Source
source_of_file rows layout file =
    option_map (λ o. record { layout = layout; file = file; options = o; costs = given rows (codes "costs") }) (options_asked layout rows)

-- the layout that the words name
abbrev pub layout_asked : List Row → Option Layout
layout_asked rows = option_and_then layout_named (given rows (codes "layout"))

-- the instance of a file, where its layout and its name are given
abbrev pub source_from : List Row → Option Layout → Option Text → Option Source
source_from rows (Some layout) (Some file) = source_of_file rows layout file
source_from rows layout file = None

-- the instance that the words name
unfoldable pub source_asked : List Row → Option Source
source_asked rows = source_from rows (layout_asked rows) (given rows (codes "file"))

-- a search with this version of the certificate, where both of its numbers are within their forms
abbrev pub search_from : (version : ℕ) → Option (Option ℕ) → Option ℕ → Option Search
search_from version (Some nodes) (Some workers) = Some (record { nodes = nodes; workers = workers; version = version })
search_from version nodes workers = None

-- the search that the words ask for
unfoldable pub search_asked : List Row → (version : ℕ) → Option Search
search_asked rows version = search_from version (nodes_asked (given rows (codes "nodes"))) (workers_asked (given rows (codes "workers")))

-- a made instance, where both of its numbers are given within their forms
abbrev pub making_from : Option ℕ → Option ℕ → Option Making
making_from (Some seed) (Some size) = Some (record { seed = seed; size = size })
making_from seed size = None

-- the instance that the words ask to be made
unfoldable pub making_asked : List Row → Option Making
making_asked rows = making_from (seed_asked (given rows (codes "seed"))) (size_asked (given rows (codes "size")))

-- ---- how an instance is solved

-- a rule, with Pareto-optimal cuts where the words ask for them; the rule by rounds has none
abbrev pub with_cuts : (core : Bool) → SearchRule → Option SearchRule
with_cuts false rule = Some rule
with_cuts true by_rounds = None
with_cuts true rule = Some by_core_cuts

-- where the rule and the kind of its cuts are within their forms
abbrev pub by_rule_from : Option SearchRule → Option Bool → Option How
by_rule_from (Some rule) (Some core) = option_map follow (with_cuts core rule)
by_rule_from rule core = None

-- by a rule, which `solve` asks for
unfoldable pub by_rule_asked : List Row → Option How
by_rule_asked rows = by_rule_from (rule_asked (given rows (codes "rule"))) (core_cuts_asked (given rows (codes "cuts")))

-- by no rule, which `optimize` asks for, with the older certificate that is named
unfoldable pub freely_asked : List Row → Option How
freely_asked rows = option_map (λ gap. freely gap (given rows (codes "from"))) (gap_asked (given rows (codes "gap")))

-- again, which `resolve` asks for
unfoldable pub again_asked : List Row → Option How
again_asked rows = option_map again (given rows (codes "older"))

-- ---- what is to be solved

-- The version of the certificate, where the options allow to solve so. With Pareto-optimal cuts it is the third. Then
-- no version may be named, and neither routes nor hubs limited. By rounds no number of hubs is wanted. `again` writes
-- the second version.
abbrev pub version_by : How → Options → Option Text → Option ℕ
version_by (follow node_by_node) o word = version_asked (is_limited o) word
version_by (follow by_core_cuts) o word = if is_some word || is_limited o then None else Some 3
version_by (follow by_rounds) o word = if is_some o.hubs then None else version_asked (is_limited o) word
version_by (again older) o word = Some 2
version_by (freely gap from) o word = version_asked (is_limited o) word

-- the instance with the search of this version, where there is one
abbrev pub solving_in : List Row → How → Source → Option ℕ → Option Solving
solving_in rows how source (Some version) = option_map (λ run. record { source = source; how = how; search = run }) (search_asked rows version)
solving_in rows how source None = None

-- the instance that is named, solved so
abbrev pub solving_with : List Row → How → Option Source → Option Solving
solving_with rows how (Some source) = solving_in rows how source (version_by how source.options (given rows (codes "format")))
solving_with rows how None = None

-- a call to solve the instance that the words name, where how is within its form
abbrev pub solve_asked : List Row → Option How → Option Request
solve_asked rows (Some how) = option_map solve (solving_with rows how (source_asked rows))
solve_asked rows None = None

-- an instance and a certificate, where both are given
abbrev pub certificate_from : Option Text → Option Source → Option (Source × Text)
certificate_from (Some certificate) (Some source) = Some (source, certificate)
certificate_from certificate source = None

-- the instance and the certificate that the words name
abbrev pub certificate_asked : List Row → Option (Source × Text)
certificate_asked rows = certificate_from (given rows (codes "certificate")) (source_asked rows)

-- a call to check a certificate against the instance
abbrev pub check_asked : List Row → Option Request
check_asked rows = option_map (λ p. check p.0 p.1) (certificate_asked rows)

-- a call to report on a certificate of the instance
abbrev pub report_asked : List Row → Option Request
report_asked rows = option_map (λ p. report p.0 p.1) (certificate_asked rows)

-- a call to make an instance
abbrev pub make_asked : List Row → Option Request
make_asked rows = option_map make (making_asked rows)

-- a call to make an instance and to solve it by the search
abbrev pub demonstrated : Option Making → Option Search → Option Request
demonstrated (Some making) (Some run) = Some (demo making run)
demonstrated making run = None

-- a call to make an instance and to solve it
abbrev pub demo_asked : List Row → Option Request
demo_asked rows = demonstrated (making_asked rows) (search_asked rows 1)

-- what a subcommand asks for with what the words give to it
abbrev pub request_asked : Text → List Row → Option Request
request_asked name rows =
    if bytes_eq name (codes "solve") then solve_asked rows (by_rule_asked rows)
    else if bytes_eq name (codes "optimize") then solve_asked rows (freely_asked rows)
    else if bytes_eq name (codes "resolve") then solve_asked rows (again_asked rows)
    else if bytes_eq name (codes "check") then check_asked rows
    else if bytes_eq name (codes "report") then report_asked rows
    else if bytes_eq name (codes "make") then make_asked rows
    else if bytes_eq name (codes "demo") then demo_asked rows else None

-- what the words ask for, if they are a command
unfoldable pub asked : List Text → Option Request
asked words = option_and_then (λ p. request_asked p.0 p.1) (parsed words)
