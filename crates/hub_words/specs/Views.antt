-- The words, and the answers of the code, as contracts see them.
use Rattle.std.specs.Prelude.{ℕ, List, map, Option, option_map, string_bytes, String}
use Rattle.std.specs.declared.alloc.Global.{Global}
use Rattle.clap.specs.Words.{Row, found_of, rows_of}
use Rattle.clap.specs.declared.parser.matches.ArgMatches.{ArgMatches}
use Rattle.file_spec.specs.Options as file
use Rattle.file_spec.specs.Options.{Options}
use Rattle.cert_scan.specs.Versions.{version_number}
use Rattle.hub_words.specs.Requests as request
use Rattle.hub_words.specs.declared.requests.Layout.{Layout}
use Rattle.hub_words.specs.declared.requests.Layout.TheVariants.{CabMatrix, CabRows, AustraliaPost}
use Rattle.hub_words.specs.declared.requests.Source.{Source}
use Rattle.hub_words.specs.declared.requests.Solving.{Solving}
use Rattle.hub_words.specs.declared.requests.Search.{Search}
use Rattle.hub_words.specs.declared.requests.Making.{Making}
use Rattle.hub_words.specs.declared.requests.SearchRule.{SearchRule}
use Rattle.hub_words.specs.declared.requests.SearchRule.TheVariants.{NodeByNode, ByCoreCuts, ByRounds}
use Rattle.hub_words.specs.declared.requests.How.{How}
use Rattle.hub_words.specs.declared.requests.How.TheVariants.{Follow, Again, Freely}
use Rattle.hub_words.specs.declared.requests.Command.{Command}
use Rattle.hub_words.specs.declared.requests.Command.TheVariants.{Solve, Check, Report, Make, Demo}

-- the bytes of the words
abbrev pub texts : List (String Global) → List (List ℕ)
texts words = map string_bytes words

-- the layout
abbrev pub layout_of : Layout → file.Layout
layout_of CabMatrix = file.cab_matrix
layout_of CabRows = file.cab_rows
layout_of AustraliaPost = file.australia_post

-- the instance that is named
abbrev pub source_of : Source → request.Source
source_of s = record { layout = layout_of s.layout; file = s.file.now; options = s.terms; costs = option_map (λ name. name.now) s.costs }

-- the requested search
abbrev pub search_seen : Search → request.Search
search_seen s = record { nodes = s.nodes; workers = s.workers; version = version_number s.version }

-- the instance that is to be made
abbrev pub making_seen : Making → request.Making
making_seen m = record { seed = m.seed; size = m.size }

-- the rule of a search
abbrev pub rule_seen : SearchRule → request.SearchRule
rule_seen NodeByNode = request.node_by_node
rule_seen ByCoreCuts = request.by_core_cuts
rule_seen ByRounds = request.by_rounds

-- how an instance is solved
abbrev pub how_seen : How → request.How
how_seen (Follow rule) = request.follow (rule_seen rule)
how_seen (Again older) = request.again older.now
how_seen (Freely gap from) = request.freely gap (option_map (λ name. name.now) from)

-- what is to be solved
abbrev pub solving_of : Solving → request.Solving
solving_of s = record { source = source_of s.source; how = how_seen s.how; search = search_seen s.search }

-- the values that a command was given, in rows
abbrev pub rows_found : ArgMatches → List Row
rows_found found = rows_of (found_of found)

-- the request
abbrev pub request_of : Command → request.Request
request_of (Solve solving) = request.solve (solving_of solving)
request_of (Check source certificate) = request.check (source_of source) certificate.now
request_of (Report source certificate) = request.report (source_of source) certificate.now
request_of (Make making) = request.make (making_seen making)
request_of (Demo making run) = request.demo (making_seen making) (search_seen run)

-- the request, if there is one
abbrev pub requested : Option Command → Option request.Request
requested command = option_map request_of command
