-- How a line is written: its first word, and numbers behind it, each behind a space.
use Rattle.std.specs.Prelude.{ℕ, ℤ, ◌+◌, List, [], ◌∷◌, ◌++◌, flat_map, codes, decimal, nat_eq, if◌then◌else◌}
use Rattle.core_spec.specs.CoreCuts.{Way}
use Rattle.hub_model.specs.Amounts.{natural}
use Rattle.cert_spec.specs.Lines.{run_numbers}

-- a number behind a space
abbrev pub spaced : ℕ → List ℕ
spaced n = 32 ∷ decimal n

-- the first word, and each number behind a space
abbrev pub words_text : List ℕ → List ℕ → List ℕ
words_text keyword numbers = keyword ++ flat_map spaced numbers

-- and a line feed
abbrev pub words_line : List ℕ → List ℕ → List ℕ
words_line keyword numbers = words_text keyword numbers ++ 10 ∷ []

-- the number of a node, behind a space
abbrev pub spaced_node : ℕ → List ℕ
spaced_node k = spaced (k + 1)

-- a node and its value, each behind a space
abbrev pub spaced_value : ℕ × ℤ → List ℕ
spaced_value e = flat_map spaced ((e.0 + 1) ∷ natural e.1 ∷ [])

-- a node and its value as a natural number
abbrev pub spaced_entry : ℕ × ℕ → List ℕ
spaced_entry e = flat_map spaced ((e.0 + 1) ∷ e.1 ∷ [])

-- the two nodes of a way, and how often it is taken, each behind a space
abbrev pub spaced_way : Way → List ℕ
spaced_way w = flat_map spaced ((w.0 + 1) ∷ (w.1 + 1) ∷ w.2 ∷ [])

-- the number of a cut and its weight, each behind a space
abbrev pub spaced_weight : ℕ × ℕ → List ℕ
spaced_weight e = flat_map spaced (e.0 ∷ e.1 ∷ [])

-- the first words of the line of a dual for a run, up to its price
abbrev pub run_text : (i j run price : ℕ) → List ℕ
run_text i j run price =
    words_text (if nat_eq run 1 then codes "dual" else codes "duals") ((i + 1) ∷ (j + 1) ∷ (run_numbers run ++ price ∷ []))
