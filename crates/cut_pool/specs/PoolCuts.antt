-- The columns of a pool, with one item for each cut.
use Rattle.std.specs.Prelude.{◌≡◌, ℕ, ◌<◌, List, [], ◌∷◌, Option, Some, None, map, slice_index_or}
use Rattle.cut_pool.specs.Kept.{Kept, by_set, cored, kept_set}
use Rattle.cut_pool.specs.Entries.{Entry}

-- the most cuts of a pool: their numbers are below 2 ^ 32
abbrev pub most_kept : ℕ
most_kept = 4294967295

-- a stored cut is from a hub set
abbrev pub IsOfSet : Kept → Type 0
IsOfSet (by_set hubs order) = Unit {0}
IsOfSet (cored x) = Unit {0}
IsOfSet _ = ⊥

-- the hub set of each stored cut that is from one
abbrev pub sets_of : List Kept → List (Option (List ℕ))
sets_of cuts = map kept_set cuts

-- the entries of stored cuts, totals and loads that are side by side
abbrev pub entries_of : List Kept → List ℕ → List (List ℕ) → List Entry
entries_of (k ∷ ks) (t ∷ ts) (l ∷ ls) = record { cut = k; total = t; loads = l } ∷ entries_of ks ts ls
entries_of _ _ _ = []

-- no two of the sets are one
abbrev pub AreDistinct : List (Option (List ℕ)) → Type 0
AreDistinct sets =
    (s t : ℕ) (hubs : List ℕ) → s < t → slice_index_or sets s None ≡ Some hubs → slice_index_or sets t None ≡ Some hubs → ⊥
