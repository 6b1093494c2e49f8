-- The texts that the product prints, each line ended by a line feed. Nodes, tokens and lines count from 1 here.
use Rattle.std.specs.Prelude.{ℕ, ◌+◌, List, [], ◌∷◌, ◌++◌, codes, decimal}
use Rattle.std.specs.List.{concat}
use Rattle.std.specs.Fmt.{signed_decimal}
use Rattle.file_spec.specs.Faults.{Fault, bad_number, missing_token, missing_pair, extra, bad_size, negative, too_big, bad_index, repeated, no_candidate, too_costly, bad_hubs}
use Rattle.hub_sources.specs.Sources.{Blame, on_instance, on_costs}
use Rattle.file_spec.specs.Faults as faults

-- what is printed where the words are no command
unfoldable pub usage_text : List ℕ
usage_text = concat (
    codes "usage: hub solve LAYOUT FILE [options] [--nodes N] [--workers W]\n"
    ∷ codes "       hub check LAYOUT FILE CERT [options]\n"
    ∷ codes "       hub report LAYOUT FILE CERT [options]\n"
    ∷ codes "       hub make SEED SIZE\n"
    ∷ codes "       hub demo SEED SIZE [--nodes N] [--workers W]\n"
    ∷ codes "LAYOUT: cab-matrix, cab-rows, ap\n"
    ∷ codes "options: --order flow-first|distance-first, --tail ignore|fixed, --divide D,\n"
    ∷ codes "         --collect X, --trunk X, --deliver X, --fixed X, --costs FILE,\n"
    ∷ codes "         --candidates LIST, --no-self\n"
    ∷ codes "         --format 1|2\n"
    ∷ codes "         --max-length R\n"
    ∷ codes "         --hubs P|file\n"
    ∷ codes "       hub resolve LAYOUT FILE OLD [options] [--nodes N] [--workers W]\n"
    ∷ codes "         --cuts minimal|core\n"
    ∷ codes "         --rule 1|2\n"
    ∷ [])

unfoldable pub memory_text : List ℕ
memory_text = codes "hub: out of memory\n"

unfoldable pub read_text : List ℕ
read_text = codes "hub: read failed\n"

-- words with two nodes behind them
abbrev pub pair_words : List ℕ → ℕ → ℕ → List (List ℕ)
pair_words words i j = words ∷ decimal (i + 1) ∷ codes " " ∷ decimal (j + 1) ∷ []

-- a fault's number, name and what it carries, in parts
abbrev pub fault_words : Fault → List (List ℕ)
fault_words faults.too_long = codes "1 TooLong" ∷ []
fault_words (bad_number at) = codes "2 BadNumber at " ∷ decimal at ∷ []
fault_words (missing_token t) = codes "3 Missing token " ∷ decimal t ∷ []
fault_words (missing_pair i j) = pair_words (codes "3 Missing pair ") i j
fault_words (extra at) = codes "4 Extra at " ∷ decimal at ∷ []
fault_words (bad_size got) = codes "5 Size " ∷ signed_decimal got ∷ []
fault_words (negative at) = codes "6 Negative at " ∷ decimal at ∷ []
fault_words (too_big at) = codes "7 TooBig at " ∷ decimal at ∷ []
fault_words (bad_index at) = codes "8 BadIndex at " ∷ decimal at ∷ []
fault_words (repeated i j) = pair_words (codes "9 Repeated ") i j
fault_words (no_candidate k) = codes "10 NoCandidate " ∷ decimal (k + 1) ∷ []
fault_words (too_costly sum) = codes "11 TooCostly " ∷ decimal sum ∷ []
fault_words (bad_hubs p) = codes "12 Hubs " ∷ decimal p ∷ []

-- that no network serves the commodity
unfoldable pub no_network_text : ℕ × ℕ → List ℕ
no_network_text commodity = concat (pair_words (codes "hub: no network for ") commodity.0 commodity.1 ++ codes "\n" ∷ [])

-- the words that name the file that has a fault
abbrev pub blame_words : Blame → List ℕ
blame_words on_instance = codes "hub: instance fault "
blame_words on_costs = codes "hub: costs fault "

-- the line of a fault with these words
unfoldable pub fault_line : Blame → List (List ℕ) → List ℕ
fault_line blame words = concat (blame_words blame ∷ words ++ codes "\n" ∷ [])

-- the line of a fault
abbrev pub fault_text : Blame → Fault → List ℕ
fault_text blame fault = fault_line blame (fault_words fault)
