-- The command `hub` as clap knows it.
use Rattle.std.specs.Prelude.{List, [], ◌∷◌, codes, true, Some, fold}
use Rattle.clap.specs.Words.{App, Rule, Text, new_app, new_rule, with_rule, with_subcommand}
use Rattle.clap.specs.Simple.{Shape, on_top}
use Rattle.clap.specs.declared.builder.action.ArgAction.TheVariants.{SetTrue}

-- a word that must be given, known by its place
abbrev pub word_rule : Text → Rule
word_rule name = record (new_rule name) { required = true }

-- an option with one value, given at most once
abbrev pub option_rule : Text → Rule
option_rule name = record (new_rule name) { long = Some name }

-- a flag, given at most once
abbrev pub flag_rule : Text → Rule
flag_rule name = record (new_rule name) { long = Some name; action = Some SetTrue }

-- the command with one more such word
abbrev pub with_word : App → Text → App
with_word a name = with_rule a (word_rule name)

-- the command with one more such option
abbrev pub with_option : App → Text → App
with_option a name = with_rule a (option_rule name)

-- the words of a subcommand that name an instance
abbrev pub instance_words : List Text
instance_words = codes "layout" ∷ codes "file" ∷ []

-- the instance options that have a value
abbrev pub option_names : List Text
option_names = codes "order" ∷ codes "tail" ∷ codes "divide" ∷ codes "collect" ∷ codes "trunk" ∷ codes "deliver" ∷ codes "fixed"
    ∷ codes "costs" ∷ codes "candidates" ∷ codes "max-length" ∷ codes "hubs" ∷ []

-- a command that takes a layout, an instance file and the instance options
abbrev pub with_instance : App → App
with_instance a = with_rule (fold with_option (fold with_word a instance_words) option_names) (flag_rule (codes "no-self"))

-- the options of a search
abbrev pub search_names : List Text
search_names = codes "nodes" ∷ codes "workers" ∷ []

-- a command that takes the options of a search too
abbrev pub with_search : App → App
with_search a = fold with_option a search_names

-- a command that takes the version of the certificate's text
abbrev pub with_format : App → App
with_format a = with_option a (codes "format")

-- a command that takes the rule of the search and the kind of its cuts
abbrev pub with_choice : App → App
with_choice a = with_option (with_option a (codes "rule")) (codes "cuts")

-- a command that takes a gap between the bound and the cost, and the file of an older certificate to begin with
abbrev pub with_gap : App → App
with_gap a = with_option (with_option a (codes "gap")) (codes "from")

-- the words of a subcommand that say which instance is made
abbrev pub making_words : List Text
making_words = codes "seed" ∷ codes "size" ∷ []

-- a command that takes a seed and a number of nodes
abbrev pub with_making : App → App
with_making a = fold with_word a making_words

-- `solve LAYOUT FILE`, with the instance options, those of a search, the version of the text, the rule of the search and the
-- kind of its cuts
abbrev pub solve_app : App
solve_app = with_choice (with_format (with_search (with_instance (new_app (codes "solve")))))

-- `optimize LAYOUT FILE`, with the instance options, those of a search, the version of the text, the gap and an older certificate
abbrev pub optimize_app : App
optimize_app = with_gap (with_format (with_search (with_instance (new_app (codes "optimize")))))

-- `resolve LAYOUT FILE OLD`, with the instance options and those of a search
abbrev pub resolve_app : App
resolve_app = with_search (with_word (with_instance (new_app (codes "resolve"))) (codes "older"))

-- a subcommand `NAME LAYOUT FILE CERT`, with the instance options
abbrev pub certificate_app : Text → App
certificate_app name = with_word (with_instance (new_app name)) (codes "certificate")

-- `check LAYOUT FILE CERT`, with the instance options
abbrev pub check_app : App
check_app = certificate_app (codes "check")

-- `report LAYOUT FILE CERT`, with the instance options
abbrev pub report_app : App
report_app = certificate_app (codes "report")

-- `make SEED SIZE`
abbrev pub make_app : App
make_app = with_making (new_app (codes "make"))

-- `demo SEED SIZE`, with the options of a search
abbrev pub demo_app : App
demo_app = with_search (with_making (new_app (codes "demo")))

-- no help, no version, and a subcommand must be named
abbrev pub bare : Shape → Shape
bare s = record s { disable_help_flag = true; disable_help_subcommand = true; disable_version_flag = true; subcommand_required = true }

-- the subcommands of `hub`
abbrev pub subcommand_apps : List App
subcommand_apps = solve_app ∷ optimize_app ∷ resolve_app ∷ check_app ∷ report_app ∷ make_app ∷ demo_app ∷ []

-- `hub` with its seven subcommands
unfoldable pub hub : App
hub = fold (λ app part. with_subcommand app part.top) (on_top bare (new_app (codes "hub"))) subcommand_apps
